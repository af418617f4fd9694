-- `take_scans` of snap_judge (src/scans.rt).
use Rattle.std.proofs.Common.{ℕ, ◌<◌, ◌+◌, inl, inr, ◌∙◌, sym, arith, subst, List, ap}
use Rattle.std.proofs.lemmas.Bool.{cases_eq}
use Rattle.snap_runs.specs.Operation.{Sees}
use Rattle.snap_judge.specs.declared.config.Config.{Config}
use Rattle.snap_judge.specs.declared.config.Step.{Step as KeptStep}
use Rattle.snap_judge.specs.Kept.{ChangesSlotAlone, ChangesSlotsAlone, IsSettledAt}
use Rattle.snap_judge.proofs.Goes.{goes_on}
use Rattle.snap_judge.proofs.scans.take_scans.Goals as goal

-- one more place is settled
more : (steps : List KeptStep) (c c' : Config) (n : ℕ) → ((p : ℕ) → p < n → IsSettledAt steps c p) →
    ChangesSlotAlone n c c' → IsSettledAt steps c' n → (p : ℕ) → p < n + 1 → IsSettledAt steps c' p
more steps c c' n before alone now p lt j is sees = elim (cases_eq p n) [
  | inl same ↦ subst (IsSettledAt steps c') (sym same) now j is sees
  | inr differ ↦ before p (omega (arith, lt, differ)) j (sym (alone.others p differ) ∙ is)
      (sees ∙ ap Sees alone.alone.values)
]

both : (c c' c'' : Config) → ChangesSlotsAlone c c' → ChangesSlotsAlone c' c'' → ChangesSlotsAlone c c''
both c c' c'' g h = record {
  position = h.position ∙ g.position;
  values = h.values ∙ g.values;
  count = h.count ∙ g.count;
}

pub loop-place-preserved : goal.loop-place-preserved
loop-place-preserved c =
    let goes = c.in_ok-take_scan.ensures.goes_on in
    let kept = c.in_ok-take_scan.ensures.kept in
    let settled = c.in_ok-take_scan.ensures.settled in
    record {
      goes = goes_on c.args.steps.now _ _ _ _ _ _ c.loop-place.invariant.goes goes;
      alone = both _ _ _ c.loop-place.invariant.alone kept.alone;
      end = c.loop-place.invariant.end ∙ sym kept.alone.count;
      settled = more c.args.steps.now _ _ c.loop-place.place c.loop-place.invariant.settled kept settled;
    }
