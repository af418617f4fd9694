-- Write strongly linearizable: as a run goes on, the updates that its linearization lists keep their order, and more
-- come only behind them.
use Rattle.std.specs.Prelude.{◌≡◌, ℕ, ◌<◌, List, [], ◌∷◌, ◌++◌, length, Option, Some, None}
use Rattle.snap_words.specs.Shape.{Counts}
use Rattle.snap_semantics.specs.Source.{Source}
use Rattle.snap_semantics.specs.declared.process.Item.{Item}
use Rattle.snap_runs.specs.Run.{IsValidRun, run_of_items}
use Rattle.snap_runs.specs.Operation.{Action, Sets, Sees, Operation}
use Rattle.snap_runs.specs.Linearization.{IsLinearization}
use Rattle.snap_runs.specs.LinearizationPoints.{HasLinearizationPoints}

-- The call of an update: by which process, at which item, and what for. The end is no part of it, since an update
-- that is open in a run may have ended in a longer one.
pub record UpdateCall : Type 0 where
  pub process : ℕ
  pub call : ℕ
  pub word : ℕ
  pub value : ℕ

-- the call of an operation, where it is an update
abbrev pub update_call : (process call : ℕ) → Action → List UpdateCall
update_call process call (Sets word value) =
    record { process = process; call = call; word = word; value = value } ∷ []
update_call process call (Sees view) = []

-- the updates in a list of operations, in their order
abbrev pub updates : List Operation → List UpdateCall
updates [] = []
updates (o ∷ os) = update_call o.process o.call o.action ++ updates os

-- The second list begins with the first one.
abbrev pub IsPrefix : {X : Type 0} → List X → List X → Type 0
IsPrefix {X} xs ys = (rest : List X) × (xs ++ rest ≡ ys)

-- A run has fewer items than a limit, if one is given.
abbrev pub IsShorter : Option ℕ → List Item → Type 0
IsShorter None items = Unit {0}
IsShorter (Some most) items = length items < most

-- A choice of a list of operations for each list of items, by which a listing with this shape is write strongly
-- linearizable in all runs that are shorter than a limit, or in all runs where there is none.
pub record IsWriteStrongChoice (source : Source) (shape : Counts) (most : Option ℕ)
    (choose : List Item → List Operation) : Type 0 where
  -- what is chosen is a linearization of the run over the items
  pub linearizes : (items : List Item) → IsShorter most items → IsValidRun (run_of_items source shape items) →
      IsLinearization (run_of_items source shape items) (choose items)
  -- the updates that are listed once the run has gone on begin with those that were listed before
  pub keeps_updates : (items more : List Item) → IsShorter most (items ++ more) →
      IsValidRun (run_of_items source shape (items ++ more)) →
      IsPrefix (updates (choose items)) (updates (choose (items ++ more)))

-- A choice of linearizations keeps the order of updates as runs go on.
abbrev pub IsWriteStronglyLinearizable : Source → Counts → (most : Option ℕ) → Type 0
IsWriteStronglyLinearizable source shape most =
    (choose : List Item → List Operation) × IsWriteStrongChoice source shape most choose

-- Where the operations of every run have linearization points, with the updates' at one line, the listing is write
-- strongly linearizable.
abbrev pub WriteStronglyLinearizableByPoints : Type 0
WriteStronglyLinearizableByPoints = (source : Source) (shape : Counts) (most : Option ℕ) (line : ℕ) →
    ((items : List Item) → IsShorter most items → HasLinearizationPoints line (run_of_items source shape items)) →
    IsWriteStronglyLinearizable source shape most
