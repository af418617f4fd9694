-- Strongly linearizable: the operations of a run are put in order while it goes on, and what is in order stays so.
use Rattle.std.specs.Prelude.{◌≡◌, ℕ, ◌⊎◌, List, ◌++◌, map, length, Option, Some, None, replicate}
use Rattle.std.specs.List.{All, AllPairs, Contains}
use Rattle.snap_words.specs.Shape.{Counts}
use Rattle.snap_semantics.specs.declared.process.Item.{Item}
use Rattle.snap_semantics.specs.Source.{Source}
use Rattle.snap_runs.specs.Run.{Run, IsValidRun, run_of_items}
use Rattle.snap_runs.specs.Scan.{PendingScan, Ends}
use Rattle.snap_runs.specs.Operation.{Action, Sets, Sees, Operation, IsOperation, HasEnded}
use Rattle.snap_runs.specs.Linearization.{RunsFrom, KeepsOrder, IsLinearization, IsLinearizable}
use Rattle.snap_runs.specs.WriteStrong.{IsShorter}

-- Process i called a scan at item c that has not ended by the end of the run. It may be given any view as its answer.
abbrev pub IsOpenScan : Run → ℕ → ℕ → Option ℕ → Action → Type 0
IsOpenScan r i c None (Sees view) =
    PendingScan r i None c (length r.items) × ((seen : List ℕ) → Ends r i (length r.items) None seen → ⊥)
IsOpenScan r i c None (Sets word value) = ⊥
IsOpenScan r i c (Some e) a = ⊥

-- An operation of this run, completed: an update, ended or not, a scan with what it answered, or
-- one that is open, with any view.
abbrev pub IsCompleted : Run → Operation → Type 0
IsCompleted r o = IsOperation r o ⊎ IsOpenScan r o.process o.call o.end o.action

-- A linearization as `IsLinearization` has it, in which scans that are open may stand too, each with
-- the view that it is to answer.
pub record IsCompletedLinearization (r : Run) (os : List Operation) : Type 0 where
  -- each is an operation of the run, completed
  pub took_place : All (IsCompleted r) os
  -- no two have the same call: each stands once
  pub once : AllPairs (λ a b. a.call ≡ b.call → ⊥) os
  -- every operation of the run that has ended is there
  pub complete : (o : Operation) → IsOperation r o → HasEnded o → Contains os o
  -- the order in time is kept
  pub order : KeepsOrder os
  -- the object runs them, from w zeros on, with these answers
  pub runs : RunsFrom (replicate r.shape.w 0) os

-- an operation whenever it ends: who called it, at which item, and what it does
abbrev pub without_end : Operation → Operation
without_end o = record { process = o.process; call = o.call; end = None; action = o.action }

-- The longer list begins with the shorter one: with the same operations, some of which may have ended since.
abbrev pub BeginsWith : List Operation → List Operation → Type 0
BeginsWith longer shorter = (rest : List Operation) × (map without_end longer ≡ map without_end shorter ++ rest)

-- A choice of a linearization for each run below a limit of items, or for every run if there is no limit. The choice
-- is kept however the run goes on, up to the limit.
pub record IsStrongChoice (source : Source) (shape : Counts) (most : Option ℕ) (choose : List Item → List Operation)
    : Type 0 where
  -- what is chosen for a run is a linearization of it, in which scans may be completed
  pub linearizes : (items : List Item) → IsShorter most items → IsValidRun (run_of_items source shape items) →
      IsCompletedLinearization (run_of_items source shape items) (choose items)
  -- what is chosen for a longer run begins with it
  pub stays : (items more : List Item) → IsShorter most (items ++ more) →
      IsValidRun (run_of_items source shape (items ++ more)) →
      BeginsWith (choose (items ++ more)) (choose items)

-- A choice of linearizations is kept as runs go on.
abbrev pub IsStronglyLinearizable : Source → Counts → (most : Option ℕ) → Type 0
IsStronglyLinearizable source shape most =
    (choose : List Item → List Operation) × IsStrongChoice source shape most choose

-- A linearization is one in which no scan is completed.
abbrev pub LinearizationsAreCompleted : Type 0
LinearizationsAreCompleted = (r : Run) (os : List Operation) → IsLinearization r os → IsCompletedLinearization r os

-- A strongly linearizable listing is linearizable, in the runs below the limit: where scans are completed, they may be
-- left out.
abbrev pub StrongIsLinearizable : Type 0
StrongIsLinearizable = (source : Source) (shape : Counts) (most : Option ℕ) →
    IsStronglyLinearizable source shape most → (items : List Item) → IsShorter most items →
    IsLinearizable (run_of_items source shape items)
