-- The operations of a run are those of which its threads are told.
use Rattle.std.proofs.Common.{◌≡◌, ℕ, suc, ◌<◌, ◌≤◌, length, Option, Some, None, refl, sym, subst, arith}
use Rattle.snap_semantics.specs.Table.{who}
use Rattle.snap_semantics.specs.declared.process.Item.TheVariants.{Call}
use Rattle.snap_semantics.specs.declared.process.Op.TheVariants.{Update}
use Rattle.snap_semantics.specs.declared.process.Outcome.{Outcome}
use Rattle.snap_semantics.specs.declared.process.Outcome.TheVariants.{Called}
use Rattle.snap_runs.specs.Operation.{Action, Sees, Sets}
use Rattle.snap_runs.specs.Run.{Run, item, outcome}
use Rattle.snap_judge.specs.Linearizable.{called_as}
use Rattle.snap_history_laws.specs.threads.Told.{IsEnd, IsToldCall, IsToldOutcome, NoEndBetween, WasTold, told_in}
use Rattle.snap_history_laws.specs.threads.RunLaws.{OperationsAreTold}
use Rattle.snap_history_laws.proofs.threads.Spans.{EndsNothing, Spans, ended_as, from_span, to_span}
use Rattle.snap_history_laws.proofs.threads.Turning.{of_item, with_item}

module _ (r : Run) (i c : ℕ) where
  -- where nothing ends, of no end is told
  no_end : (e t : ℕ) (out : Outcome) → EndsNothing r i c e → c < t → t < e → IsToldOutcome (told_in r i) t out →
      IsEnd out → ⊥
  no_end e t out still more less told ends =
      let u = of_item r i t told.0 out told.1 in still t more less u.mine (subst IsEnd (sym u.outcome_is) ends)

  -- what ends is told
  told_end : (t : ℕ) → c < t → t ≤ length r.items → who (item r t) ≡ i → IsToldOutcome (told_in r i) t (outcome r t)
  told_end t more within mine = (
    item r t,
    with_item r i t (item r t) (outcome r t)
        (record { some = omega arith; within = within; mine = mine; item_is = refl; outcome_is = refl }),
  )

  -- what a thread is told of an operation that has ended
  abbrev IsToldToEnd : ℕ → Action → Type 0
  IsToldToEnd e a =
      IsToldCall (told_in r i) i c (called_as a) × (c < e) × IsToldOutcome (told_in r i) e (ended_as a)
      × NoEndBetween (told_in r i) c e

  told_to_end : (e : ℕ) (a : Action) → Spans r i c (Some e) a → IsToldToEnd e a
  told_to_end e a h = (
    with_item r i c (Call i (called_as a)) Called h.call,
    h.next.0,
    (h.next.1.0, with_item r i e h.next.1.0 (ended_as a) h.next.1.1),
    λ t out more less. no_end e t out h.next.2 more less,
  )

  to_end : (e : ℕ) (a : Action) → IsToldToEnd e a → Spans r i c (Some e) a
  to_end e a h = record {
    call = of_item r i c (Call i (called_as a)) Called h.0;
    next = (
      h.1,
      (h.2.0, of_item r i e h.2.0 (ended_as a) h.2.1),
      λ t more less mine. h.3 t (outcome r t) more less
          (told_end t more (let end = of_item r i e h.2.0 (ended_as a) h.2.1 in omega arith) mine),
    );
  }

  was_told : (end : Option ℕ) (a : Action) → Spans r i c end a → WasTold (told_in r i) i c end a
  was_told (Some e) (Sets word value) h = told_to_end e (Sets word value) h
  was_told (Some e) (Sees view) h = told_to_end e (Sees view) h
  was_told None (Sets word value) h = (
    with_item r i c (Call i (Update word value)) Called h.call,
    λ t out more told.
        no_end (suc (length r.items)) t out h.next more (let u = of_item r i t told.0 out told.1 in omega arith) told,
  )
  was_told None (Sees view) h = absurd h.next

  pub span_told : (end : Option ℕ) (a : Action) → WasTold (told_in r i) i c end a → Spans r i c end a
  span_told (Some e) (Sets word value) h = to_end e (Sets word value) h
  span_told (Some e) (Sees view) h = to_end e (Sees view) h
  span_told None (Sets word value) h = record {
    call = of_item r i c (Call i (Update word value)) Called h.0;
    next = λ t more less mine. h.1 t (outcome r t) more (told_end t more (omega arith) mine);
  }
  span_told None (Sees view) h = absurd h

pub operations_are_told : OperationsAreTold
operations_are_told r fits o = (
  λ h. was_told r o.process o.call o.end o.action (to_span r fits o.process o.call o.end o.action h),
  λ h. from_span r fits o.process o.call o.end o.action (span_told r o.process o.call o.end o.action h),
)
