-- The verdicts of an audit, found from the events of a run alone (`by_events`), are those of the run.
use Rattle.std.proofs.Common.{◌≡◌, ℕ, zero, suc, ◌+◌, ◌-◌, false, List, [], ◌∷◌, ◌++◌}
use Rattle.std.proofs.Common.{length, nat_eq, replicate, slice_index, slice_set, refl}
use Rattle.std.proofs.Common.{sym, ap, ◌∙◌, append_assoc, append-nil, arith, inl, inr}
use Rattle.std.proofs.lemmas.Bool.{cases_eq}
use Rattle.std.proofs.lemmas.Grind.{get_or-set_at}
use Rattle.std.proofs.lemmas.List.{get_or-set_other, length-set, length-replicate, get_or-replicate}
use Rattle.snap_words.specs.Shape.{Counts, IsOneOf}
use Rattle.snap_semantics.specs.Run.{event_of}
use Rattle.snap_semantics.specs.Source.{Source}
use Rattle.snap_semantics.specs.State.{State}
use Rattle.snap_semantics.specs.Table.{done, who}
use Rattle.snap_semantics.specs.declared.process.Item.{Item}
use Rattle.snap_semantics.specs.declared.process.Item.TheVariants.{Step, Call}
use Rattle.snap_semantics.specs.declared.process.Op.{Op}
use Rattle.snap_semantics.specs.declared.process.Outcome.{Outcome}
use Rattle.snap_semantics.specs.declared.process.Outcome.TheVariants as outcomes
use Rattle.snap_runs.specs.Audit.{audit, is_called, last_call, verdict_at, verdict_of, verdicts}
use Rattle.snap_runs.specs.Run.{Run, IsValidRun, state, item, outcome, events_of}
use Rattle.snap_runs.specs.declared.verdict.Verdict.{Verdict}
use Rattle.snap_runs.proofs.Computing.{other_number, same_number}
use Rattle.snap_runs.proofs.Embedding.{all_index}
use Rattle.snap_record.proofs.Events.{events_from, next_events, no_events, all_events}
use Rattle.snap_record.proofs.Searches.{and_false}
use Rattle.snap_audit.specs.Sweep.{by_events}

-- what calls an operation is a call
calls_called : (s : Source) (n : Counts) (S : State) (x : Item) → (done s n S x).1 ≡ outcomes.Called →
    (k : ℕ) × (op : Op) × (x ≡ Call k op)
calls_called s n S x called = grind arith

module _ (r : Run) (fits : IsValidRun r) where
  -- of the scans that so many items after item t answer
  verdicts_from : ℕ → ℕ → List Verdict
  verdicts_from t zero = []
  verdicts_from t (suc more) = verdict_at r (suc t) (outcome r (suc t)) ++ verdicts_from (suc t) more

  -- the verdicts of the first items, and of those behind them
  joined : (t more u : ℕ) → t + more ≡ u → verdicts r u ≡ verdicts r t ++ verdicts_from t more
  unfolding verdicts_from
  joined t zero u e = (let same : u ≡ t = omega (arith, e) in ap (verdicts r) same ∙ sym (append-nil (verdicts r t)))
  joined t (suc more) u e =
      joined (suc t) more u (omega (arith, e))
      ∙ append_assoc (verdicts r t) (verdict_at r (suc t) (outcome r (suc t))) (verdicts_from (suc t) more)

  -- an item that calls nothing leaves the last calls
  last_kept : (i t : ℕ) → is_called (outcome r (suc t)) ≡ false → last_call r i (suc t) ≡ last_call r i t
  last_kept i t quiet = rw quiet (and_false (nat_eq (who (item r (suc t))) i) (suc t) (last_call r i t))

  -- the last call of each process
  abbrev AreLast : List ℕ → ℕ → Type 0
  AreLast calls t =
      (length calls ≡ r.shape.n) × ((i : ℕ) → IsOneOf r.shape.n i → slice_index calls (i - 1) ≡ last_call r i t)

  -- the last calls stay right
  kept : (calls : List ℕ) (t : ℕ) → is_called (outcome r (suc t)) ≡ false → AreLast calls t → AreLast calls (suc t)
  kept calls t quiet h = (h.0, λ i one. h.1 i one ∙ sym (last_kept i t quiet))

  -- with the call's item set, the last calls are right again
  set_last : (calls : List ℕ) (t k : ℕ) → who (item r (suc t)) ≡ k → outcome r (suc t) ≡ outcomes.Called →
      IsOneOf r.shape.n k → AreLast calls t → AreLast (slice_set calls (k - 1) (suc t)) (suc t)
  set_last calls t k mine is one h =
      let count = h.0 in (
        length-set calls (k - 1) (suc t) ∙ count,
        λ j there. elim (cases_eq k j) [
          | inl same ↦
              get_or-set_at calls (k - 1) (j - 1) (suc t) 0 (omega arith) (omega arith)
              ∙ rw (mine, is, same, same_number)
          | inr differ ↦
              get_or-set_other calls (k - 1) (j - 1) (suc t) 0 (λ same. differ (omega arith)) ∙ h.1 j there
              ∙ rw (mine, is, other_number k j differ)
        ],
      )

  -- what is found behind item t + 1, for any last calls that are right there
  abbrev Rest : ℕ → ℕ → Type 0
  Rest t more = (calls : List ℕ) → AreLast calls t → by_events r calls (events_from r t) ≡ verdicts_from t more

  -- one item
  one_item : (t more : ℕ) (x : Item) (o : Outcome) (calls : List ℕ) → item r (suc t) ≡ x →
      outcome r (suc t) ≡ o → IsOneOf r.shape.n (who x) → AreLast calls t →
      Rest (suc t) more → by_events r calls (event_of (suc t) x o ++ events_from r (suc t))
      ≡ verdict_at r (suc t) o ++ verdicts_from (suc t) more
  one_item t more (Call k op) outcomes.Called calls at is one h rest =
      rest (slice_set calls (k - 1) (suc t)) (set_last calls t k (ap who at) is one h)
  one_item t more x outcomes.Called calls at is one h rest =
      let call = calls_called r.source r.shape (state r t) x (rw (at, outcome) at is) in absurd cc
  one_item t more x (outcomes.Answered v) calls at is one h rest =
      let quiet : is_called (outcome r (suc t)) ≡ false = ap is_called is in
      let mine : who (item r (suc t)) ≡ who x = ap who at in
      let last : slice_index calls (who x - 1) ≡ last_call r (who x) (suc t) =
      h.1 (who x) one ∙ sym (last_kept (who x) t quiet) in
      ap (λ c. verdict_of r (who x) c (suc t) v ∷ by_events r calls (events_from r (suc t))) last
      ∙ ap (λ i. verdict_of r i (last_call r i (suc t)) (suc t) v ∷ by_events r calls (events_from r (suc t)))
      (sym mine)
      ∙ ap (λ vs. verdict_of r (who (item r (suc t))) (last_call r (who (item r (suc t))) (suc t)) (suc t) v ∷ vs)
      (rest calls (kept calls t quiet h))
  one_item t more x o calls at is one h rest = rest calls (kept calls t (ap is_called is) h)

  -- from any item on
  from_item : (t more : ℕ) → t + more ≡ length r.items → Rest t more
  unfolding verdicts_from
  from_item t zero e calls h = ap (by_events r calls) (no_events r t (omega (arith, e)))
  from_item t (suc more) e calls h =
      ap (by_events r calls) (next_events r t (omega (arith, e)))
      ∙ one_item t more (item r (suc t)) (outcome r (suc t)) calls refl refl
      (all_index (λ y. IsOneOf r.shape.n (who y)) r.items t (Step 0) fits.all (omega (arith, e))) h
      (from_item (suc t) more (omega (arith, e)))

  -- the audit goes by the events
  pub audit_by_events : by_events r (replicate r.shape.n 0) (events_of r (length r.items)) ≡ audit r
  audit_by_events =
      ap (by_events r (replicate r.shape.n 0)) (all_events r)
      ∙ from_item 0 (length r.items) (omega arith) (replicate r.shape.n 0)
      (length-replicate r.shape.n 0, λ i one. get_or-replicate r.shape.n (i - 1) 0 0 (omega arith))
      ∙ sym (joined 0 (length r.items) (length r.items) (omega arith))
