-- The operations of a run by their calls and ends alone: from the call of an operation to its end nothing of its
-- process ends, and that is all that makes it an operation.
use Rattle.std.proofs.Common.{◌≡◌, ℕ, zero, suc, ◌<◌, ◌≤◌, inl, inr, length, Option, Some, None, refl, sym, ap, ◌∙◌}
use Rattle.std.proofs.Common.{subst, arith}
use Rattle.std.proofs.lemmas.Bool.{cases_eq}
use Rattle.snap_words.specs.Shape.{IsOneOf}
use Rattle.snap_semantics.specs.Table.{who}
use Rattle.snap_semantics.specs.declared.process.Item.{Item}
use Rattle.snap_semantics.specs.declared.process.Item.TheVariants.{Call}
use Rattle.snap_semantics.specs.declared.process.Op.{Op}
use Rattle.snap_semantics.specs.declared.process.Op.TheVariants.{Scan, Update}
use Rattle.snap_semantics.specs.declared.process.Outcome.{Outcome}
use Rattle.snap_semantics.specs.declared.process.Outcome.TheVariants.{Answered, Called, Finished}
use Rattle.snap_semantics.specs.declared.process.Status.{Status}
use Rattle.snap_runs.specs.Operation.{Action, Sees, Sets, TookPlace}
use Rattle.snap_runs.specs.Run.{Run, IsValidRun, item, outcome}
use Rattle.snap_runs.specs.Update.{IsDone, PendingUpdate}
use Rattle.snap_runs.proofs.Calls.{Calls, EndsAt, EndsWith, Occupied, item_one, occupied, turn}
use Rattle.snap_runs.proofs.Operations.{ends_answer, ends_done}
use Rattle.snap_runs.proofs.Transitions.{Transition, answers, finishes}
use Rattle.snap_judge.specs.Linearizable.{called_as}
use Rattle.snap_history_laws.specs.threads.Told.{IsEnd}
use Rattle.snap_history_laws.proofs.threads.Turning.{IsOfItem}

-- what comes of the item at which an operation ends
abbrev pub ended_as : Action → Outcome
ended_as (Sets word value) = Finished
ended_as (Sees view) = Answered view

-- nothing of process i ends behind item c and before item e
abbrev pub EndsNothing : Run → (i c e : ℕ) → Type 0
EndsNothing r i c e = (t : ℕ) → c < t → t < e → who (item r t) ≡ i → IsEnd (outcome r t) → ⊥

-- behind its call at item c an operation of process i ends next, or nothing does
abbrev pub EndsNext : Run → (i c : ℕ) → Option ℕ → Action → Type 0
EndsNext r i c (Some e) a = (c < e) × ((x : Item) × IsOfItem r i e x (ended_as a)) × EndsNothing r i c e
EndsNext r i c None (Sets word value) = EndsNothing r i c (suc (length r.items))
EndsNext r i c None (Sees view) = ⊥

pub record Spans (r : Run) (i c : ℕ) (end : Option ℕ) (a : Action) : Type 0 where
  pub call : IsOfItem r i c (Call i (called_as a)) Called
  pub next : EndsNext r i c end a

-- whatever ends at a process that is at an operation is that operation
ends_it : {s s' : Status} {x : Item} {out : Outcome} (o : Op) → Transition s x out s' → Occupied o s → IsEnd out →
    EndsWith o out
ends_it o (answers i a view is) at ends = subst (λ p. EndsWith p (Answered view)) (sym is ∙ at) tt
ends_it o (finishes i a word value is) at ends = subst (λ p. EndsWith p Finished) (sym is ∙ at) tt
ends_it o _ at ends = absurd ends

pub is_end : (o : Op) (out : Outcome) → EndsWith o out → IsEnd out
is_end o out h = grind arith

module _ (r : Run) (fits : IsValidRun r) where
  -- where an operation has not ended, nothing of its process has
  ends_nothing : (i c e : ℕ) (o : Op) → IsOneOf r.shape.n i → 0 < c → Calls r fits i o c → e ≤ suc (length r.items) →
      ((u : ℕ) → c < u → u < e → EndsAt r fits i o u → ⊥) → EndsNothing r i c e
  ends_nothing i c e o one first call short still zero lt less his ends = omega arith
  ends_nothing i c e o one first call short still (suc s) lt less his ends =
      let at_it =
      occupied r fits i o c s one first (omega arith) (omega arith) call (λ u more le. still u more (omega arith)) in
      still (suc s) lt less (his, ends_it o (turn r fits s i (omega arith) one his) at_it ends)

  called : (i c : ℕ) (o : Op) → 0 < c → c ≤ length r.items → Calls r fits i o c → IsOfItem r i c (Call i o) Called
  called i c o some within is =
      record { some = some; within = within; mine = ap who is.0; item_is = is.0; outcome_is = is.1 }

  ended : (i e : ℕ) (o : Outcome) → 0 < e → e ≤ length r.items → who (item r e) ≡ i → outcome r e ≡ o →
      (x : Item) × IsOfItem r i e x o
  ended i e o some within mine is =
      (item r e, record { some = some; within = within; mine = mine; item_is = refl; outcome_is = is })

  pub to_span : (i c : ℕ) (end : Option ℕ) (a : Action) → TookPlace r i c end a → Spans r i c end a
  to_span i c (Some e) (Sets word value) h = record {
    call = called i c (Update word value) h.0.first (omega arith) (h.0.call, h.0.called);
    next = (
      h.1,
      ended i e Finished (omega arith) h.0.last h.2.0 h.2.1,
      ends_nothing i c e (Update word value) h.0.process h.0.first (h.0.call, h.0.called) (omega arith)
          (λ u more less ends. h.0.goes_on u more less (ends.0, ends_done word value (outcome r u) ends.1)),
    );
  }
  to_span i c None (Sets word value) h = record {
    call = called i c (Update word value) h.0.first h.0.order (h.0.call, h.0.called);
    next =
        ends_nothing i c (suc (length r.items)) (Update word value) h.0.process h.0.first (h.0.call, h.0.called)
        (omega arith) (λ u more less ends. let out = ends_done word value (outcome r u) ends.1 in
        elim (cases_eq u (length r.items)) [
          | inl last ↦ h.1 (subst (IsDone r i) last (ends.0, out))
          | inr other ↦ h.0.goes_on u more (omega arith) (ends.0, out)
        ]);
  }
  to_span i c (Some e) (Sees view) h = record {
    call = called i c Scan h.scan.first (omega arith) h.scan.starts;
    next = (
      h.order,
      ended i e (Answered view) (omega arith) h.scan.last h.ends.0 h.ends.1,
      ends_nothing i c e Scan h.scan.process h.scan.first h.scan.starts (omega arith) (λ u more less ends.
          let out = ends_answer (outcome r u) ends.1 in h.scan.goes_on u out.0 more less (ends.0, out.1)),
    );
  }
  to_span i c None (Sees view) h = absurd h

  pub one_of : (i c : ℕ) (x : Item) (o : Outcome) → IsOfItem r i c x o → IsOneOf r.shape.n i
  one_of i zero x o is = absurd (omega arith)
  one_of i (suc s) x o is = subst (IsOneOf r.shape.n) is.mine (item_one r fits s (omega arith))

  pending : (i word value c e : ℕ) → IsOfItem r i c (Call i (Update word value)) Called → c ≤ e → e ≤ length r.items →
      EndsNothing r i c e → PendingUpdate r i word value c e
  pending i word value c e call order last still = record {
    process = one_of i c (Call i (Update word value)) Called call;
    call = call.item_is;
    called = call.outcome_is;
    first = call.some;
    order = order;
    last = last;
    goes_on = λ t more less done. still t more less done.0 (subst IsEnd (sym done.1) tt);
  }

  pub from_span : (i c : ℕ) (end : Option ℕ) (a : Action) → Spans r i c end a → TookPlace r i c end a
  from_span i c (Some e) (Sets word value) h =
      let end = h.next.1.1 in (
        pending i word value c e h.call (omega arith) end.within h.next.2,
        h.next.0,
        (end.mine, end.outcome_is),
      )
  from_span i c None (Sets word value) h = (
    pending i word value c (length r.items) h.call h.call.within (omega arith)
        (λ t more less. h.next t more (omega arith)),
    λ done. elim (cases_eq c (length r.items)) [
      | inl last ↦ (let called = h.call.outcome_is in let finished = done.1 in let both = ap (outcome r) last in cc)
      | inr other ↦ h.next (length r.items) (omega arith) (omega arith) done.0 (subst IsEnd (sym done.1) tt)
    ],
  )
  from_span i c (Some e) (Sees view) h =
      let end = h.next.1.1 in record {
        scan = record {
          process = one_of i c (Call i Scan) Called h.call;
          starts = (h.call.item_is, h.call.outcome_is);
          first = h.call.some;
          order = omega arith;
          last = end.within;
          goes_on = λ t seen more less ends. h.next.2 t more less ends.0 (subst IsEnd (sym ends.1) tt);
        };
        order = h.next.0;
        ends = (end.mine, end.outcome_is);
      }
  from_span i c None (Sees view) h = absurd h.next
