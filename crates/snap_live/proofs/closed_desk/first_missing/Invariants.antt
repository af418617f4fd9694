-- `first_missing` of snap_live (src/closed_desk.rt): what holds at the head of each of its loops.
use Rattle.std.proofs.Common.{ℕ, ◌≤◌}
use Rattle.snap_live.specs.Closed.{HasSeat}
use Rattle.snap_live.proofs.closed_desk.first_missing.Given as goal

abbrev pub invariant-loop-process : goal.invariant-loop-process
invariant-loop-process g l = (p : ℕ) → 1 ≤ p → p ≤ l.process → HasSeat p l.seats
