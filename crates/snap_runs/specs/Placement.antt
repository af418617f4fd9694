-- Where the operations of a run take place: each at one item, not before its call and not after its end.
use Rattle.std.specs.Prelude.{◌≡◌, ℕ, ◌<◌, ◌≤◌, true, List, length, Some}
use Rattle.std.specs.List.{AllZip, Contains}
use Rattle.std.specs.List.Sorted.{IsNonDecreasing}
use Rattle.snap_semantics.specs.State.{values}
use Rattle.snap_runs.specs.Run.{Run, IsValidRun, state}
use Rattle.snap_runs.specs.Update.{executes}
use Rattle.snap_runs.specs.Operation.{Action, Sets, Sees, Operation, IsOperation}
use Rattle.snap_runs.specs.Linearization.{IsLinearization}
use Rattle.snap_runs.specs.LinearizationPoints.{HasLinearizationPoints}

-- Process i, which called at item c, does this at item t: an update executes the line that writes, and a scan's view is
-- what the values are after the item.
abbrev pub HappensAt : (line : ℕ) → Run → (i c : ℕ) → Action → ℕ → Type 0
HappensAt line r i c (Sets word value) t = (c < t) × (executes r i line t ≡ true)
HappensAt line r i c (Sees view) t = values (state r t) ≡ view

-- Operation o takes place at item t of the run, where updates write at this line.
pub record TakesPlaceAt (line : ℕ) (r : Run) (o : Operation) (t : ℕ) : Type 0 where
  -- not before its call
  pub called : o.call ≤ t
  -- within the run
  pub within : t ≤ length r.items
  -- not after its end, where it has ended
  pub not_ended : (e : ℕ) → o.end ≡ Some e → t ≤ e
  -- at that item the operation does what it does
  pub happens : HappensAt line r o.process o.call o.action t

-- A linearization, and for each of its operations the item at which it takes place.
pub record IsPlacedLinearization (line : ℕ) (r : Run) (os : List Operation) (places : List ℕ) : Type 0 where
  pub linearization : IsLinearization r os
  -- there are as many places as operations, and each operation takes place at its own
  pub each : AllZip (TakesPlaceAt line r) os places
  -- the operations stand in the order of their places
  pub in_order : IsNonDecreasing places
  -- Every operation of the run that takes place at some item is there. So there are the updates that have written and
  -- the scans that have been answered, and no others.
  pub complete : (o : Operation) (t : ℕ) → IsOperation r o → TakesPlaceAt line r o t → Contains os o

-- Each operation of a run has its place: there are places and a linearization in their order.
abbrev pub OperationsHavePlaces : ℕ → Run → Type 0
OperationsHavePlaces line r =
    IsValidRun r → (os : List Operation) × (places : List ℕ) × IsPlacedLinearization line r os places

-- Where operations have linearization points, each has its place.
abbrev pub PlacedByPoints : Type 0
PlacedByPoints = (line : ℕ) (r : Run) → HasLinearizationPoints line r → OperationsHavePlaces line r
