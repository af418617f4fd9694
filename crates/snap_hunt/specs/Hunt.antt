-- `run_of`: run k of those that a seed and a plan give for a listing; `IsFirst`: the first of some of them in which
-- something is found.
use Rattle.std.specs.Prelude.{◌≡◌, ℕ, ◌+◌, ◌<◌, ◌≤◌, List, Option, Some, None, length, slice_index_or}
use Rattle.snap_semantics.specs.Source.{Source}
use Rattle.snap_runs.specs.Run.{Run, run_over}
use Rattle.snap_chance.specs.Chance.{schedule_of}
use Rattle.snap_chance.specs.Plan.{Plan}
use Rattle.snap_hunt.specs.Finding.{Finds}
use Rattle.snap_hunt.specs.declared.failures.Failure.{Failure}
use Rattle.snap_hunt.specs.declared.failures.Wanted.{Wanted}
use Rattle.snap_hunt.specs.declared.found.Found.{Found}

-- run k of a listing, by a plan
unfoldable pub run_of : Source → Plan → (seed k : ℕ) → Run
run_of l p seed k = run_over l (schedule_of seed k p)

-- nothing is found in the runs from one number up to another, which is none of them
abbrev pub NothingBefore : Source → Plan → Wanted → (seed from to : ℕ) → Type 0
NothingBefore l p w seed from to = (j : ℕ) → from ≤ j → j < to → Finds w (run_of l p seed j) None

-- The first of the runs from one number up to another in which something is found, and what that is; or nothing is
-- found in any of them.
abbrev pub IsFirst : Source → Plan → Wanted → (seed from to : ℕ) → Option Found → Type 0
IsFirst l p w seed from to None = NothingBefore l p w seed from to
IsFirst l p w seed from to (Some x) =
    (from ≤ x.run) × (x.run < to) × NothingBefore l p w seed from x.run
    × Finds w (run_of l p seed x.run) (Some x.failure)

-- The first failure of a list of what was found, with its number, where they count from this one; or there is none.
abbrev pub IsFirstIn : (from : ℕ) → List (Option Failure) → Option Found → Type 0
IsFirstIn from found None = (j : ℕ) → j < length found → slice_index_or found j None ≡ None
IsFirstIn from found (Some x) =
    (k : ℕ) × (x.run ≡ from + k) × (k < length found) × (slice_index_or found k None ≡ Some x.failure)
    × ((j : ℕ) → j < k → slice_index_or found j None ≡ None)
