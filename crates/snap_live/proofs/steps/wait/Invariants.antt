-- `wait` of snap_live (src/steps.rt): what holds at the head of each of its loops.
use Rattle.std.proofs.Common.{◌≡◌}
use Rattle.snap_live.proofs.steps.wait.Given as goal

abbrev pub invariant-loop : goal.invariant-loop
invariant-loop g l = (l.seat.table_id ≡ l.initial.seat.table_id) × (l.seat.me ≡ l.initial.seat.me)
