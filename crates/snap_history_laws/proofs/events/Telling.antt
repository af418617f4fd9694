-- `EventsTellOperations`: each event of a run has taken place, and the call and the end of each operation are among
-- the events.
use Rattle.std.proofs.Common.{◌≡◌, ℕ, zero, suc, ◌+◌, ◌<◌, ◌≤◌, List, [], ◌∷◌, ◌++◌, length, take, drop}
use Rattle.std.proofs.Common.{Some, refl, sym, ap, ◌∙◌, arith}
use Rattle.std.specs.List.{All, Contains}
use Rattle.std.proofs.lemmas.List.{length-take-le, take-append-drop, take_all}
use Rattle.std.proofs.lemmas.List.Elements.{All-append, All-cons, All-nil, Contains-append_left, Contains-append_right}
use Rattle.snap_semantics.specs.Run.{event_of, events}
use Rattle.snap_semantics.specs.State.{initial}
use Rattle.snap_semantics.specs.Table.{who}
use Rattle.snap_semantics.specs.declared.event.Event.{Event}
use Rattle.snap_semantics.specs.declared.event.Happening.TheVariants as what
use Rattle.snap_semantics.specs.declared.process.Item.{Item}
use Rattle.snap_semantics.specs.declared.process.Item.TheVariants as items
use Rattle.snap_semantics.specs.declared.process.Outcome.{Outcome}
use Rattle.snap_semantics.specs.declared.process.Outcome.TheVariants as outcomes
use Rattle.snap_runs.specs.Operation.{Action, EndsAreOfOperations, Sees, Sets}
use Rattle.snap_runs.specs.Run.{IsValidRun, Run, events_of, item, outcome, state}
use Rattle.snap_record.proofs.Events.{all_events, events_from, next_events, no_events}
use Rattle.snap_record.proofs.Longer.{events_append}
use Rattle.snap_judge.specs.Linearizable.{called_as, ends_as, event}
use Rattle.snap_judge.proofs.ExplainedLists.{contains_head}
use Rattle.snap_history_laws.specs.events.EventLaws.{EventsTellOperations, Tells}
use Rattle.snap_history_laws.proofs.threads.Spans.{EndsNext, ended_as, to_span}

module _ (r : Run) where
  -- the events of item t
  abbrev events_at : ℕ → List Event
  events_at t = event_of t (item r t) (outcome r t)

  -- the events up to an item, and those behind it
  pub split : (t : ℕ) → t ≤ length r.items → events_of r (length r.items) ≡ events_of r t ++ events_from r t
  split t le =
      let next : 1 + length (take t r.items) ≡ suc t = omega (arith, length-take-le t r.items le) in
      ap (events r.source r.shape (initial r.source r.shape) 1)
      (take_all (length r.items) r.items (omega arith) ∙ sym (take-append-drop t r.items))
      ∙ events_append r.source r.shape (initial r.source r.shape) 1 (take t r.items) (drop t r.items)
      ∙ ap (λ k. events_of r t ++ events r.source r.shape (state r t) k (drop t r.items)) next

  -- an event of an item is among all
  among : (t : ℕ) (e : Event) → 0 < t → t ≤ length r.items → Contains (events_at t) e →
      Contains (events_of r (length r.items)) e
  among zero e some le has = absurd (omega arith)
  among (suc t) e some le has =
      rw (split t (omega arith), next_events r t (omega arith))
      (Contains-append_right (events_of r t) (events_at (suc t) ++ events_from r (suc t)) e
      (Contains-append_left (events_at (suc t)) (events_from r (suc t)) e has))

  -- the end of an operation is told
  pub end_told : (i t : ℕ) (a : Action) → 0 < t → t ≤ length r.items → who (item r t) ≡ i →
      outcome r t ≡ ended_as a → Contains (events_of r (length r.items)) (event i t (ends_as a))
  end_told i t (Sets word value) some le his is =
      let done : outcome r t ≡ outcomes.Finished = is in
      among t (event i t what.Done) some le (rw (← his, done) (contains_head (event (who (item r t)) t what.Done) []))
  end_told i t (Sees view) some le his is =
      let told : outcome r t ≡ outcomes.Answered view = is in
      among t (event i t (what.Answer view)) some le
      (rw (← his, told) (contains_head (event (who (item r t)) t (what.Answer view)) []))

module _ (ends_are : EndsAreOfOperations) (r : Run) (fits : IsValidRun r) where
  abbrev IsTrue : Event → Type 0
  IsTrue e = Tells r e.process e.item e.what

  one : (e : Event) → IsTrue e → All IsTrue (e ∷ [])
  one e h = All-cons IsTrue e [] h (All-nil IsTrue)

  -- what the event of an item tells is so
  true_call : (t : ℕ) (x : Item) → item r t ≡ x → outcome r t ≡ outcomes.Called →
      All IsTrue (event_of t x outcomes.Called)
  true_call t (items.Call i o) is comes = one (event i t (what.Call o)) (is, comes)
  true_call t other is comes = All-nil IsTrue

  true_at : (t : ℕ) → t < length r.items → (out : Outcome) → outcome r (suc t) ≡ out →
      All IsTrue (event_of (suc t) (item r (suc t)) out)
  true_at t lt outcomes.Called is = true_call (suc t) (item r (suc t)) refl is
  true_at t lt (outcomes.Answered view) is =
      one (event (who (item r (suc t))) (suc t) (what.Answer view)) ((ends_are r fits t lt).0 view is)
  true_at t lt outcomes.Finished is = one (event (who (item r (suc t))) (suc t) what.Done) ((ends_are r fits t lt).1 is)
  true_at t lt outcomes.Crashed is = one (event (who (item r (suc t))) (suc t) what.Crash) (refl, is)
  true_at t lt other is = All-nil IsTrue

  -- nor is what those of the later items tell
  true_from : (t more : ℕ) → t + more ≡ length r.items → All IsTrue (events_from r t)
  true_from t zero e = rw (no_events r t (omega arith)) (All-nil IsTrue)
  true_from t (suc more) e =
      rw (next_events r t (omega arith))
      (All-append IsTrue (events_at r (suc t)) (events_from r (suc t))
      (true_at t (omega arith) (outcome r (suc t)) refl) (true_from (suc t) more (omega arith)))

pub tells_operations : EndsAreOfOperations → EventsTellOperations
tells_operations ends_are r fits = record {
  each = rw (all_events r) (true_from ends_are r fits 0 (length r.items) (omega arith));
  calls = λ o h.
      let call = (to_span r fits o.process o.call o.end o.action h).call in
      among r o.call (event o.process o.call (what.Call (called_as o.action))) call.some call.within
      (rw (call.outcome_is, call.item_is) (contains_head (event o.process o.call (what.Call (called_as o.action))) []));
  ends = λ o t h ended.
      let next : EndsNext r o.process o.call (Some t) o.action =
      rw ended at (to_span r fits o.process o.call o.end o.action h).next in
      let end = next.1.1 in end_told r o.process t o.action end.some end.within end.mine end.outcome_is;
}
