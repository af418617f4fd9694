-- `OwnSteps`: the steps that each process has taken since its last call, for failures of too many, after one item
-- more.
use Rattle.std.proofs.Common.{◌≡◌, ℕ, zero, suc, ◌+◌, ◌-◌, ◌^◌, ◌<◌, ◌≤◌, Bool, true, false, ◌&&◌, List, length, get_or}
use Rattle.std.proofs.Common.{Option, Some, None, if◌then◌else◌, nat_eq, nat_lt, refl, sym, ap, subst, ◌∙◌, arith, inl, inr}
use Rattle.std.specs.Prelude.{slice_set}
use Rattle.std.proofs.lemmas.Bool.{cases_eq}
use Rattle.std.proofs.lemmas.Grind.{common_steps, get_or-set_at}
use Rattle.std.proofs.lemmas.List.{get_or-set_other, length-set}
use Rattle.snap_words.specs.Shape.{IsOneOf}
use Rattle.snap_semantics.specs.Rules.{or_else}
use Rattle.snap_semantics.specs.Table.{who}
use Rattle.snap_semantics.specs.declared.process.Item.{Item}
use Rattle.snap_semantics.specs.declared.process.Item.TheVariants.{Step, Call, Crash}
use Rattle.snap_semantics.specs.declared.process.Outcome.{Outcome}
use Rattle.snap_runs.specs.Audit.{is_called, last_call}
use Rattle.snap_runs.specs.Run.{Run, item, outcome}
use Rattle.snap_runs.specs.Scan.{count, is_not_skipped, own_steps, steps, takes_step}
use Rattle.snap_runs.proofs.Computing.{either, other_number, same_number}
use Rattle.snap_runs.proofs.Counting.{count_next, count_none, count_not}
use Rattle.snap_hunt.specs.Firsts.{asks_update}
use Rattle.snap_hunt.specs.declared.failures.Failure.{Failure}
use Rattle.snap_hunt.specs.declared.failures.OwnSteps.{OwnSteps}
use Rattle.snap_hunt.specs.Failing.{overrun, overrun_at, steps_since_call}
use Rattle.snap_hunt.specs.Watching.{CountsSteps, is_taken, none_taken, noted, noted_if, overrun_by}

-- a step of its own is one that is not skipped, and a step of another process is none
taken : (i : ℕ) (x : Item) (o : Outcome) (own : Bool) → nat_eq (who x) i ≡ own →
    (steps i x && is_not_skipped o) ≡ (own && is_taken x o)
taken i (Step k) o own h = ap (λ b. b && is_not_skipped o) h
taken i _ o own h = grind arith

-- no more items are counted than there are
pub count_few : (test : ℕ → Bool) (c e : ℕ) → count test c e ≤ e
count_few test c zero = omega arith
count_few test c (suc e) =
    either (λ k. k ≤ suc e) (nat_lt c (suc e) && test (suc e)) _ _ (λ so. omega (arith, count_few test c e))
    (λ not. omega (arith, count_few test c e))

module _ (r : Run) where
  -- the last call up to an item is not behind it
  pub last_call_few : (i t : ℕ) → last_call r i t ≤ t
  last_call_few i zero = omega arith
  last_call_few i (suc t) =
      either (λ k. k ≤ suc t) (nat_eq (who (item r (suc t))) i && is_called (outcome r (suc t))) _ _
      (λ so. omega arith) (λ not. omega (arith, last_call_few i t))

  -- an item of another process
  pub beside : (i t : ℕ) → nat_eq (who (item r (suc t))) i ≡ false →
      steps_since_call r i (suc t) ≡ steps_since_call r i t
  beside i t other =
      let none = taken i (item r (suc t)) (outcome r (suc t)) false other in
      let next = count_next (takes_step r i) (last_call r i t) t (last_call_few i t) in
      cc

  -- an item of its own
  pub own : (i t : ℕ) → nat_eq (who (item r (suc t))) i ≡ true
      → steps_since_call r i (suc t) ≡ noted (steps_since_call r i t) (suc t) (item r (suc t)) (outcome r (suc t))
  own i t his =
      let takes = taken i (item r (suc t)) (outcome r (suc t)) true his in
      let next = count_next (takes_step r i) (last_call r i t) t (last_call_few i t) in
      let none = count_none (takes_step r i) (suc t) (suc t) (omega arith) in
      grind arith

  -- whether its operation has now taken too many steps
  pub over_own : (most t : ℕ) →
      overrun_at r most (suc t)
      ≡ overrun_by most (suc t) (item r (suc t)) (outcome r (suc t))
      (noted (steps_since_call r (who (item r (suc t))) t) (suc t) (item r (suc t)) (outcome r (suc t)))
  over_own most t =
      let i = who (item r (suc t)) in
      ap (λ b. overrun most i (suc t) b (steps_since_call r i (suc t)))
      (taken i (item r (suc t)) (outcome r (suc t)) true (same_number i))
      ∙ ap (overrun most i (suc t) (is_taken (item r (suc t)) (outcome r (suc t)))) (own i t (same_number i))

-- one item more
pub watches_next : (r : Run) (most t : ℕ) (owns owns' : List OwnSteps) (found later : Option Failure) →
    IsOneOf r.shape.n (who (item r (suc t))) →
    ((d : OwnSteps) → owns' ≡ slice_set owns (who (item r (suc t)) - 1)
    (noted (get_or owns (who (item r (suc t)) - 1) d) (suc t) (item r (suc t)) (outcome r (suc t)))) →
    ((d : OwnSteps) → later ≡ overrun_by most (suc t) (item r (suc t)) (outcome r (suc t))
    (noted (get_or owns (who (item r (suc t)) - 1) d) (suc t) (item r (suc t)) (outcome r (suc t)))) →
    CountsSteps r most t owns found → CountsSteps r most (suc t) owns' (or_else found later)
watches_next r most t owns owns' found later one set over h =
    let x = item r (suc t) in
    let k = who x in
    let was = h.each k one none_taken in
    let is = rw was at (set none_taken) in
    record {
      count = rw is (length-set owns (k - 1) _ ∙ h.count);
      each = λ i his d. rw is (elim (cases_eq k i) [
        | inl same ↦
            get_or-set_at owns (k - 1) (i - 1) _ d (omega arith) (omega (arith, h.count))
            ∙ sym (own r k t (same_number k)) ∙ ap (λ m. steps_since_call r m (suc t)) same
        | inr other ↦
            get_or-set_other owns (k - 1) (i - 1) _ d (λ same. other (omega arith))
            ∙ h.each i his d ∙ sym (beside r i t (other_number k i other))
      ]);
      found_is =
          ap (or_else found) (rw was at (over none_taken) ∙ sym (over_own r most t))
          ∙ ap (λ f. or_else f (overrun_at r most (suc t))) h.found_is;
    }

-- a process has room to count one step more
pub few_steps : (r : Run) (most t i : ℕ) (owns : List OwnSteps) (found : Option Failure) →
    CountsSteps r most t owns found → IsOneOf r.shape.n i → t ≤ 1000000 →
    (d : OwnSteps) → (get_or owns (i - 1) d).count + 1 < 2 ^ 64
few_steps r most t i owns found h one few d =
    omega (arith, ap (λ (own : OwnSteps). own.count) (h.each i one d), count_few (takes_step r i) (last_call r i t) t)

-- Where nothing is found later, what was found stays.
pub none_later : (found : Option Failure) → found ≡ or_else found None
none_later found = grind arith
