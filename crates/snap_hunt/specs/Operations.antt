-- `StepsAreOfOperations`: a failure of too many steps is that an operation of the run, not ended before, takes more
-- than it may.
use Rattle.std.specs.Prelude.{◌≡◌, ℕ, ◌<◌, Bool, true, false, Some, None}
use Rattle.snap_runs.specs.Run.{IsValidRun, Run}
use Rattle.snap_runs.specs.Scan.{PendingScan, own_steps, takes_step}
use Rattle.snap_runs.specs.Update.{PendingUpdate}
use Rattle.snap_hunt.specs.declared.failures.Failure.{Failure}
use Rattle.snap_hunt.specs.declared.failures.Failure.TheVariants as failure
use Rattle.snap_hunt.specs.declared.failures.OwnSteps.{OwnSteps}
use Rattle.snap_hunt.specs.Failing.{many_steps}

-- Item c called an operation of process i, an update or a scan, which had not ended before item t.
abbrev pub IsUnderWay : Run → (i c t : ℕ) → Bool → Type 0
IsUnderWay r i c t true = (word : ℕ) × (value : ℕ) × PendingUpdate r i word value c t
IsUnderWay r i c t false = PendingScan r i None c t

-- By item t it has taken more than so many steps of its own.
pub record TakesMore (r : Run) (most i c t : ℕ) (update : Bool) : Type 0 where
  pub under_way : IsUnderWay r i c t update
  pub more : most < own_steps r i c t

-- A failure is that an operation has taken more than so many steps by an item that is one of them.
pub record IsOfOperation (r : Run) (most : ℕ) (f : Failure) : Type 0 where
  pub process : ℕ
  pub item : ℕ
  pub own : OwnSteps
  pub is : f ≡ failure.ManySteps process item own
  pub takes : TakesMore r most process own.call item own.update
  pub counts : own.count ≡ own_steps r process own.call item
  pub step : takes_step r process item ≡ true

-- What is found is such an operation, and where there is one, whether it ends or not, something is found.
abbrev pub StepsAreOfOperations : Type 0
StepsAreOfOperations = (r : Run) (most : ℕ) → IsValidRun r →
    ((f : Failure) → many_steps most r ≡ Some f → IsOfOperation r most f)
    × ((i c t : ℕ) (update : Bool) → TakesMore r most i c t update → many_steps most r ≡ None → ⊥)
