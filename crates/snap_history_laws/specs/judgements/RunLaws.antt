-- A run of any listing and its history tell of the same operations.
use Rattle.std.specs.Prelude.{◌≡◌, ◌↔◌, ℕ, ◌<◌, List, length, Some}
use Rattle.std.specs.List.{AllPairs, Contains}
use Rattle.snap_semantics.specs.IsListing.{IsListing}
use Rattle.snap_semantics.specs.declared.event.Event.{Event}
use Rattle.snap_semantics.specs.declared.event.Happening.TheVariants as what
use Rattle.snap_runs.specs.Linearization.{IsLinearizable, IsLinearization}
use Rattle.snap_runs.specs.Operation.{IsOperation, Operation}
use Rattle.snap_runs.specs.Run.{IsValidRun, Run, events_of}
use Rattle.snap_judge.specs.Linearizable.{IsLinearizableHistory, IsLinearizationOf, IsOperationOf}
use Rattle.snap_judge.specs.Linearizable.{called_as, ends_as, event}
use Rattle.snap_run_judge.specs.RunHistory.{history_of}

-- The history of a run tells of its operations and of no others, and so both have the same linearizations: what is
-- linearizable of the one is so of the other.
pub record IsToldByItsHistory (r : Run) : Type 0 where
  pub operations : (o : Operation) → IsOperation r o ↔ IsOperationOf (history_of r) o
  pub linearizations : (os : List Operation) → IsLinearization r os ↔ IsLinearizationOf (history_of r) os
  pub linearizable : IsLinearizable r ↔ IsLinearizableHistory (history_of r)

abbrev pub RunsAreToldByTheirHistories : Type 0
RunsAreToldByTheirHistories = (r : Run) → IsValidRun r → IsToldByItsHistory r

-- The events of a run tell of each call and each end once.
pub record TellsEachOnce (r : Run) : Type 0 where
  -- the numbers of events rise, so that no item has two events
  pub rising : AllPairs (λ (a b : Event). a.item < b.item) (events_of r (length r.items))
  -- of the item that called an operation nothing else is told, nor of the item at which it ended
  pub one_call : (o : Operation) (e : Event) → IsOperation r o → Contains (events_of r (length r.items)) e →
      e.item ≡ o.call → e ≡ event o.process o.call (what.Call (called_as o.action))
  pub one_end : (o : Operation) (t : ℕ) (e : Event) → IsOperation r o → o.end ≡ Some t →
      Contains (events_of r (length r.items)) e → e.item ≡ t → e ≡ event o.process t (ends_as o.action)
  -- no two operations have the same call, nor the same end
  pub of_one_call : (a b : Operation) → IsOperation r a → IsOperation r b → a.call ≡ b.call → a ≡ b
  pub of_one_end : (a b : Operation) (t : ℕ) → IsOperation r a → IsOperation r b → a.end ≡ Some t → b.end ≡ Some t →
      a ≡ b

abbrev pub RunsTellEachOnce : Type 0
RunsTellEachOnce = (r : Run) → IsListing r.source → IsValidRun r → TellsEachOnce r
