-- The operations of a run are those of which its events tell.
use Rattle.std.proofs.Common.{◌≡◌, ℕ, zero, suc, ◌<◌, ◌≤◌, List, length, Option, Some, None, refl, sym, ap, subst}
use Rattle.std.proofs.Common.{arith}
use Rattle.std.specs.List.{Contains}
use Rattle.std.proofs.lemmas.List.Elements.{All-contains}
use Rattle.snap_words.specs.Shape.{IsOneOf}
use Rattle.snap_semantics.specs.Table.{who}
use Rattle.snap_semantics.specs.declared.event.Event.{Event}
use Rattle.snap_semantics.specs.declared.event.Happening.{Happening}
use Rattle.snap_semantics.specs.declared.event.Happening.TheVariants as what
use Rattle.snap_semantics.specs.declared.process.Item.{Item}
use Rattle.snap_semantics.specs.declared.process.Item.TheVariants.{Call}
use Rattle.snap_semantics.specs.declared.process.Op.{Op}
use Rattle.snap_semantics.specs.declared.process.Op.TheVariants.{Update}
use Rattle.snap_semantics.specs.declared.process.Outcome.{Outcome}
use Rattle.snap_semantics.specs.declared.process.Outcome.TheVariants.{Answered, Called, Finished}
use Rattle.snap_runs.specs.Operation.{Action, IsOperation, Operation, Sees, Sets}
use Rattle.snap_runs.specs.Run.{IsValidRun, Run, events_of, item, outcome, state}
use Rattle.snap_runs.proofs.Calls.{Occupied, occupied, turn}
use Rattle.snap_record.proofs.Later.{events_after}
use Rattle.snap_record.specs.History.{IsWithin}
use Rattle.snap_record.proofs.Events.{all_events, all_within_run, events_from}
use Rattle.snap_judge.specs.Linearizable.{CameToEnd, IsOperationOf, called_as, ends_as, event}
use Rattle.snap_judge.proofs.ExplainedLists.{each_contained}
use Rattle.snap_run_judge.specs.RunHistory.{history_of}
use Rattle.snap_history_laws.specs.events.EventLaws.{EventsTellOperations, Tells}
use Rattle.snap_history_laws.specs.threads.Told.{IsEnd}
use Rattle.snap_history_laws.proofs.events.Telling.{end_told}
use Rattle.snap_history_laws.proofs.judgements.Crashing.{finds_idle, no_end_after_crash}
use Rattle.snap_history_laws.proofs.threads.Spans.{EndsNothing, Spans, ended_as, from_span, is_end, to_span}
use Rattle.snap_history_laws.proofs.threads.Turning.{IsOfItem}

-- what is an end, by the actions that end so
end_of : (a : Action) → IsEnd (ended_as a)
end_of a = grind arith

ends_as_some : (out : Outcome) → IsEnd out → (a : Action) × (out ≡ ended_as a)
ends_as_some (Answered view) h = (Sees view, refl)
ends_as_some Finished h = (Sets 0 0, refl)
ends_as_some _ h = absurd h

no_crash : (a : Action) → ends_as a ≡ what.Crash → ⊥
no_crash a same = grind arith

module _ (tell : EventsTellOperations) (r : Run) (fits : IsValidRun r) where
  abbrev all_of : List Event
  all_of = events_of r (length r.items)

  -- what an event tells is so
  is_true : (e : Event) → Contains all_of e → Tells r e.process e.item e.what
  is_true e = All-contains (λ (x : Event). Tells r x.process x.item x.what) all_of e (tell r fits).each

  pub some_item : (e : Event) → Contains all_of e → 0 < e.item
  some_item e has =
      each_contained (λ (x : Event). 0 < x.item) e (events_from r 0)
      (events_after r.source r.shape (state r 0) 1 1 r.items (omega arith)) (rw (all_events r) at has)

  pub within : (e : Event) → Contains all_of e → IsWithin r.shape.n (length r.items) e
  within e has =
      each_contained (IsWithin r.shape.n (length r.items)) e (events_from r 0) (all_within_run r fits)
      (rw (all_events r) at has)

  -- Of a process at an operation only a crash is told before an end.
  only_crashes : (i c e : ℕ) (o : Op) → IsOneOf r.shape.n i → IsOfItem r i c (Call i o) Called → EndsNothing r i c e →
      (t : ℕ) (w : Happening) → c < t → t < e → t ≤ length r.items → Tells r i t w → w ≡ what.Crash
  only_crashes i c e o one call still zero w more less short so = absurd (omega arith)
  only_crashes i c e o one call still (suc s) (what.Call p) more less short so =
      absurd (subst (Occupied o) (finds_idle (turn r fits s i short one (ap who so.0)) so.1)
      (occupied r fits i o c s one call.some (omega arith) (omega arith) (call.item_is, call.outcome_is)
      (λ u lt le ends. still u lt (omega arith) ends.0 (is_end o (outcome r u) ends.1))))
  only_crashes i c e o one call still (suc s) (what.Answer view) more less short so =
      absurd (still (suc s) more less so.1.ends.0 (subst IsEnd (sym so.1.ends.1) tt))
  only_crashes i c e o one call still (suc s) what.Done more less short so =
      absurd (still (suc s) more less so.3.2.0 (subst IsEnd (sym so.3.2.1) tt))
  only_crashes i c e o one call still (suc s) what.Crash more less short so = refl

  -- Between the call of an operation and its end nothing is told of its process.
  nothing_between : (i c t : ℕ) (o : Op) → IsOfItem r i c (Call i o) Called → EndsNothing r i c t →
      t ≤ length r.items → who (item r t) ≡ i → IsEnd (outcome r t) →
      (e : Event) → Contains all_of e → e.process ≡ i → c < e.item → e.item < t → ⊥
  nothing_between i c t o call still short his ends e has its more less =
      let one : IsOneOf r.shape.n i = rw its at (within e has).0 in
      let tells : Tells r i e.item e.what = subst (λ k. Tells r k e.item e.what) its (is_true e has) in
      let is = only_crashes i c t o one call still e.item e.what more less (within e has).1 tells in
      let crashed : Tells r i e.item what.Crash = subst (Tells r i e.item) is tells in
      no_end_after_crash r fits i one e.item (some_item e has) crashed.0 crashed.1 t less short his ends

  -- an operation of the run is one of its history
  came : (i c : ℕ) (end : Option ℕ) (a : Action) → Spans r i c end a → CameToEnd all_of i c end a
  came i c (Some t) a h =
      let end = h.next.1.1 in (
        h.next.0,
        end_told r i t a end.some end.within end.mine end.outcome_is,
        nothing_between i c t (called_as a) h.call h.next.2 end.within end.mine
            (subst IsEnd (sym end.outcome_is) (end_of a)),
      )
  came i c None (Sets word value) h = λ e has its more.
      let event_within = within e has in
      only_crashes i c (suc (length r.items)) (Update word value) (rw its at event_within.0) h.call h.next
      e.item e.what more (omega arith) event_within.1 (subst (λ k. Tells r k e.item e.what) its (is_true e has))
  came i c None (Sees view) h = absurd h.next

  -- an operation of its history is one of the run
  called : (i c : ℕ) (o : Op) → Contains all_of (event i c (what.Call o)) → IsOfItem r i c (Call i o) Called
  called i c o has =
      let asked = is_true (event i c (what.Call o)) has in
      record {
        some = some_item (event i c (what.Call o)) has;
        within = (within (event i c (what.Call o)) has).1;
        mine = ap who asked.0;
        item_is = asked.0;
        outcome_is = asked.1;
      }

  came_so : (i t : ℕ) (a : Action) → Tells r i t (ends_as a) → (who (item r t) ≡ i) × (outcome r t ≡ ended_as a)
  came_so i t (Sets word value) so = so.3.2
  came_so i t (Sees view) so = so.1.ends

  ended : (i t : ℕ) (a : Action) → Contains all_of (event i t (ends_as a)) → (x : Item) × IsOfItem r i t x (ended_as a)
  ended i t a has =
      let so = came_so i t a (is_true (event i t (ends_as a)) has) in (
        item r t,
        record {
          some = some_item (event i t (ends_as a)) has;
          within = (within (event i t (ends_as a)) has).1;
          mine = so.0;
          item_is = refl;
          outcome_is = so.1;
        },
      )

  spans : (i c : ℕ) (end : Option ℕ) (a : Action) → Contains all_of (event i c (what.Call (called_as a))) →
      CameToEnd all_of i c end a → Spans r i c end a
  spans i c (Some t) a has h = record {
    call = called i c (called_as a) has;
    next = (
      h.0,
      ended i t a h.1,
      λ u more less his ends.
          let by = ends_as_some (outcome r u) ends in
          let last = (within (event i t (ends_as a)) h.1).1 in
          h.2 (event i u (ends_as by.0)) (end_told r i u by.0 (omega arith) (omega arith) his by.1) refl more less,
    );
  }
  spans i c None (Sets word value) has h = record {
    call = called i c (Update word value) has;
    next = λ u more less his ends.
        let by = ends_as_some (outcome r u) ends in
        no_crash by.0
        (h (event i u (ends_as by.0)) (end_told r i u by.0 (omega arith) (omega arith) his by.1) refl more);
  }
  spans i c None (Sees view) has h = absurd h

  pub to_history : (o : Operation) → IsOperation r o → IsOperationOf (history_of r) o
  to_history o h = record {
    called = (tell r fits).calls o h;
    came = came o.process o.call o.end o.action (to_span r fits o.process o.call o.end o.action h);
  }

  pub from_history : (o : Operation) → IsOperationOf (history_of r) o → IsOperation r o
  from_history o h =
      from_span r fits o.process o.call o.end o.action (spans o.process o.call o.end o.action h.called h.came)
