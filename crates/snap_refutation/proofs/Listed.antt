-- `OperationsAreAll`: what the steps of a history call is each of its operations, in the order of their calls.
use Rattle.std.proofs.Common.{◌≡◌, ℕ, ◌+◌, ◌<◌, ◌≤◌, ◌∙◌, List, [], ◌∷◌, ◌++◌, ap, append_assoc, arith, drop}
use Rattle.std.proofs.Common.{get_or, inl, inr, length, refl, subst, sym}
use Rattle.std.specs.List.{AllByRecursion, Contains}
use Rattle.std.proofs.lemmas.Bool.{cases_lt}
use Rattle.std.proofs.lemmas.List.{drop_more}
use Rattle.std.proofs.lemmas.List.Elements.{All-from_recursion}
use Rattle.snap_semantics.specs.declared.event.Event.{Event}
use Rattle.snap_runs.specs.Operation.{Operation}
use Rattle.snap_runs.proofs.Order.{Pairs, all_pairs}
use Rattle.snap_judge.specs.History.{History}
use Rattle.snap_judge.specs.Linearizable.{IsOperationOf}
use Rattle.snap_judge.specs.Steps.{Calls, Ends, Step, Waits, step_of, steps_of}
use Rattle.snap_judge.proofs.ExplainedEvents.{goes}
use Rattle.snap_judge.proofs.ExplainedLists.{contains_head, contains_tail, each_weaker}
use Rattle.snap_judge.proofs.ExplainedTurns.{Goes}
use Rattle.snap_refutation.specs.Operations.{OperationsAreAll, called, called_in}

-- What a list contains, it contains behind other elements.
behind : (xs ys : List Operation) (y : Operation) → Contains ys y → Contains (xs ++ ys) y
behind [] ys y has = has
behind (x ∷ xs) ys y has = contains_tail x y (xs ++ ys) (behind xs ys y has)

abbrev Sooner : Operation → Operation → Type 0
Sooner a b = a.call < b.call

module _ (h : History) where
  -- The operation is one of the history, called from this number on.
  abbrev IsFrom : ℕ → Operation → Type 0
  IsFrom p o = IsOperationOf h o × (p ≤ o.call)

  later : (p q : ℕ) (os : List Operation) → p ≤ q → AllByRecursion (IsFrom q) os → AllByRecursion (IsFrom p) os
  later p q os le each = each_weaker (IsFrom q) (IsFrom p) os (λ o f. (f.0, omega (arith, f.1))) each

  called_from : (xs : List Step) (p : ℕ) → Goes h xs p → AllByRecursion (IsFrom p) (called_in xs)
  called_from [] p g = tt
  called_from (Calls o ∷ xs) p g =
      let begins = g.1.begins o refl in (
        (begins.operation, begins.from),
        later p g.0 (called_in xs) g.1.later (called_from xs g.0 g.2),
      )
  called_from (Ends i ∷ xs) p g = later p g.0 (called_in xs) g.1.later (called_from xs g.0 g.2)
  called_from (Waits ∷ xs) p g = later p g.0 (called_in xs) g.1.later (called_from xs g.0 g.2)

  rising : (xs : List Step) (p : ℕ) → Goes h xs p → Pairs Sooner (called_in xs)
  rising [] p g = tt
  rising (Calls o ∷ xs) p g =
      let begins = g.1.begins o refl in
      let before : o.call < g.0 = begins.before in (
        each_weaker (IsFrom g.0) (Sooner o) (called_in xs) (λ y f. omega (arith, before, f.1)) (called_from xs g.0 g.2),
        rising xs g.0 g.2,
      )
  rising (Ends i ∷ xs) p g = rising xs g.0 g.2
  rising (Waits ∷ xs) p g = rising xs g.0 g.2

  all_called : (xs : List Step) (p : ℕ) → Goes h xs p → (y : Operation) → IsOperationOf h y → p ≤ y.call →
      Contains (called_in xs) y
  all_called [] p g y its le = absurd (let lt : y.call < p = g.called y its in omega arith)
  all_called (x ∷ xs) p g y its le = elim (cases_lt y.call g.0) [
    | inl less ↦ subst (λ (s : Step). Contains (called s ++ called_in xs) y) (sym (g.1.calls y its le less))
        (contains_head y (called_in xs))
    | inr more ↦ behind (called x) (called_in xs) y (all_called xs g.0 g.2 y its more)
  ]

pub operations_are_all : OperationsAreAll
operations_are_all h is =
    let xs = steps_of h.events in
    let g = goes h is in
    record {
      each = All-from_recursion (IsOperationOf h) (called_in xs)
          (each_weaker (IsFrom h 0) (IsOperationOf h) (called_in xs) (λ o f. f.0) (called_from h xs 0 g));
      all = λ o its. all_called h xs 0 g o its (omega arith);
      rising = all_pairs Sooner (called_in xs) (rising h xs 0 g);
    }

-- One more event: what it calls is appended.
pub pushed : (es : List Event) (k : ℕ) (e : Event) (os os' : List Operation) → k < length es → e ≡ get_or es k e →
    os' ≡ os ++ called (step_of e.process e.item e.what (drop (k + 1) es)) →
    os ++ called_in (steps_of (drop k es)) ≡ called_in (steps_of es) →
    os' ++ called_in (steps_of (drop (k + 1) es)) ≡ called_in (steps_of es)
pushed es k e os os' lt is pushes before =
    let rest = drop (k + 1) es in
    let enters : called_in (steps_of (drop k es))
    ≡ called (step_of e.process e.item e.what rest) ++ called_in (steps_of rest) =
    ap (λ (xs : List Event). called_in (steps_of xs)) (drop_more es k e lt)
    ∙ ap (λ (x : Event). called (step_of x.process x.item x.what rest) ++ called_in (steps_of rest)) (sym is) in
    ap (λ (xs : List Operation). xs ++ called_in (steps_of rest)) pushes
    ∙ append_assoc os (called (step_of e.process e.item e.what rest)) (called_in (steps_of rest))
    ∙ ap (λ (xs : List Operation). os ++ xs) (sym enters) ∙ before
