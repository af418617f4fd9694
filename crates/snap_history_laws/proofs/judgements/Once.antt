-- The events of a run tell of each call and each end once.
use Rattle.std.proofs.Common.{◌≡◌, ℕ, List, [], ◌∷◌, length, Some, sym, ap, ◌∙◌, arith, inl, inr}
use Rattle.std.specs.List.{AllPairs, Contains}
use Rattle.snap_semantics.specs.declared.event.Event.{Event}
use Rattle.snap_semantics.specs.declared.event.Happening.TheVariants as what
use Rattle.snap_runs.specs.Operation.{Action, IsOperation, Operation}
use Rattle.snap_runs.specs.Run.{IsValidRun, Run, events_of, outcome}
use Rattle.snap_runs.proofs.Calls.{one_call}
use Rattle.snap_runs.proofs.OneOperation.{one_operation}
use Rattle.snap_judge.specs.Linearizable.{called_as, ends_as, event}
use Rattle.snap_judge.proofs.ExplainedLists.{contains_cases, contains_none, pairs_head, pairs_tail}
use Rattle.snap_judge.proofs.ExplainedNext.{Rises}
use Rattle.snap_run_judge.specs.RunHistory.{RunsHaveHistories}
use Rattle.snap_history_laws.specs.events.EventLaws.{EventsTellOperations}
use Rattle.snap_history_laws.specs.judgements.RunLaws.{RunsTellEachOnce}
use Rattle.snap_history_laws.proofs.threads.Spans.{Spans, is_end, one_of, to_span}

-- where the numbers of events rise, no two events have the same
same_event : (a b : Event) (es : List Event) → AllPairs Rises es → Contains es a → Contains es b → a.item ≡ b.item →
    a ≡ b
same_event a b [] rising has_a has_b same = absurd (contains_none a has_a)
same_event a b (e ∷ es) rising has_a has_b same = elim (contains_cases e a es has_a) [
  | inl is_a ↦ elim (contains_cases e b es has_b) [
    | inl is_b ↦ sym is_a ∙ is_b
    | inr later ↦ (let less = pairs_head Rises e b es rising later in
        let first : e.item ≡ a.item = ap (λ (x : Event). x.item) is_a in absurd (omega arith))
  ]
  | inr later_a ↦ elim (contains_cases e b es has_b) [
    | inl is_b ↦ (let less = pairs_head Rises e a es rising later_a in
        let first : e.item ≡ b.item = ap (λ (x : Event). x.item) is_b in absurd (omega arith))
    | inr later_b ↦ same_event a b es (pairs_tail Rises e es rising) later_a later_b same
  ]
]

module _ (r : Run) (fits : IsValidRun r) where
  -- two operations that end at one item have one call
  call_of_end : (i c d t : ℕ) (a b : Action) → Spans r i c (Some t) a → Spans r i d (Some t) b → c ≡ d
  call_of_end i c d t a b h g =
      one_call r fits i (called_as a) (called_as b) c d t (one_of r fits i c _ _ h.call) h.call.some g.call.some
      h.next.0 g.next.0 h.next.1.1.within (h.call.item_is, h.call.outcome_is) (g.call.item_is, g.call.outcome_is)
      (λ u more less ends. h.next.2 u more less ends.0 (is_end (called_as a) (outcome r u) ends.1))
      (λ u more less ends. g.next.2 u more less ends.0 (is_end (called_as b) (outcome r u) ends.1))

  one_end_one : (a b : Operation) (t : ℕ) → IsOperation r a → IsOperation r b → a.end ≡ Some t → b.end ≡ Some t → a ≡ b
  one_end_one a b t is_a is_b ends_a ends_b =
      let h : Spans r a.process a.call (Some t) a.action =
      rw ends_a at (to_span r fits a.process a.call a.end a.action is_a) in
      let g : Spans r b.process b.call (Some t) b.action =
      rw ends_b at (to_span r fits b.process b.call b.end b.action is_b) in
      let his : b.process ≡ a.process = sym g.next.1.1.mine ∙ h.next.1.1.mine in
      one_operation r a b is_a is_b (call_of_end a.process a.call b.call t a.action b.action h (rw his at g))

pub tell_each_once : EventsTellOperations → RunsHaveHistories → RunsTellEachOnce
tell_each_once tell have r listing fits =
    let rising = (have r listing fits).rising in
    let es = events_of r (length r.items) in
    record {
      rising = rising;
      one_call = λ o e is has same.
          same_event e (event o.process o.call (what.Call (called_as o.action))) es rising has
          ((tell r fits).calls o is) same;
      one_end = λ o t e is ends has same.
          same_event e (event o.process t (ends_as o.action)) es rising has ((tell r fits).ends o t is ends) same;
      of_one_call = one_operation r;
      of_one_end = one_end_one r fits;
    }
