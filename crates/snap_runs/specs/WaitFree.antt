-- `KeepsGoing`, wait-freedom: a call is over after a bounded number
-- of turns of its own process, whatever the others do or stop doing.
use Rattle.std.specs.Prelude.{ℕ, ◌≤◌, Bool, true, false, ◌&&◌, None}
use Rattle.snap_semantics.specs.declared.process.Outcome.{Outcome}
use Rattle.snap_semantics.specs.declared.process.Outcome.TheVariants.{Skipped}
use Rattle.snap_semantics.specs.declared.process.Reason.TheVariants.{Crashed}
use Rattle.snap_runs.specs.Run.{Run, IsValidRun, item, outcome}
use Rattle.snap_runs.specs.Scan.{PendingScan, count, steps}
use Rattle.snap_runs.specs.Update.{PendingUpdate}

-- what comes of a turn of a process that has not crashed
abbrev pub is_alive : Outcome → Bool
is_alive (Skipped Crashed) = false
is_alive _ = true

-- how many turns process i gets after item c and up to item e: its steps, skipped or not, as long as it has not crashed
abbrev pub turns : Run → ℕ → ℕ → ℕ → ℕ
turns r i = count (λ t. steps i (item r t) && is_alive (outcome r t))

-- A call that has not ended before item e has had at most so many turns up to item e. A turn that is skipped counts,
-- so that a process that trapped or that stands still for ever would not keep this.
pub record KeepsGoing (scan_turns update_turns : ℕ) (r : Run) : Type 0 where
  pub scans : (i c e : ℕ) → PendingScan r i None c e → turns r i c e ≤ scan_turns
  pub updates : (i word value c e : ℕ) → PendingUpdate r i word value c e → turns r i c e ≤ update_turns

abbrev pub IsWaitFree : ℕ → ℕ → Run → Type 0
IsWaitFree scan_turns update_turns r = IsValidRun r → KeepsGoing scan_turns update_turns r
