-- `OwnSteps` item by item: the steps that each process has taken since its last call, and the failure that they are
-- too many.
use Rattle.std.specs.Prelude.{◌≡◌, ℕ, suc, ◌-◌, Bool, true, false, List, length, Option, get_or}
use Rattle.snap_words.specs.Shape.{IsOneOf}
use Rattle.snap_semantics.specs.declared.process.Item.{Item}
use Rattle.snap_semantics.specs.declared.process.Item.TheVariants.{Step, Call, Crash}
use Rattle.snap_semantics.specs.declared.process.Outcome.{Outcome}
use Rattle.snap_semantics.specs.Table.{who}
use Rattle.snap_runs.specs.Audit.{is_called}
use Rattle.snap_runs.specs.Run.{Run}
use Rattle.snap_runs.specs.Scan.{is_not_skipped}
use Rattle.snap_hunt.specs.Firsts.{asks_update, first_found}
use Rattle.snap_hunt.specs.declared.failures.Failure.{Failure}
use Rattle.snap_hunt.specs.declared.failures.OwnSteps.{OwnSteps}
use Rattle.snap_hunt.specs.Failing.{overrun, overrun_at, steps_since_call}

-- before the first call
abbrev pub none_taken : OwnSteps
none_taken = record { update = false; call = 0; count = 0 }

-- a step that is not skipped
abbrev pub is_taken : Item → Outcome → Bool
is_taken (Step i) o = is_not_skipped o
is_taken (Call i op) o = false
is_taken (Crash i) o = false

-- with item t, of the same process, which is a call, or a step that is taken, or neither
abbrev pub noted_if : (called taken : Bool) → OwnSteps → ℕ → Item → OwnSteps
noted_if true taken own t x = record { update = asks_update x; call = t; count = 0 }
noted_if false true own t x = record { update = own.update; call = own.call; count = suc own.count }
noted_if false false own t x = own

abbrev pub noted : OwnSteps → ℕ → Item → Outcome → OwnSteps
noted own t x o = noted_if (is_called o) (is_taken x o) own t x

-- that an operation has taken more than `most` steps by item t, of this outcome, with which these are its steps
abbrev pub overrun_by : (most t : ℕ) → Item → Outcome → OwnSteps → Option Failure
overrun_by most t x o own = overrun most (who x) t (is_taken x o) own

-- by item t of a run these are the steps of its processes, and this is the first operation that takes more than so many
pub record CountsSteps (r : Run) (most t : ℕ) (owns : List OwnSteps) (found : Option Failure) : Type 0 where
  pub count : length owns ≡ r.shape.n
  pub each : (i : ℕ) → IsOneOf r.shape.n i → (d : OwnSteps) → get_or owns (i - 1) d ≡ steps_since_call r i t
  pub found_is : found ≡ first_found (overrun_at r most) t
