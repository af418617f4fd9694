-- `finish` of test_live (src/seats.rt): what holds at the head of each of its loops.
use Rattle.std.proofs.Common.{◌≡◌}
use Rattle.test_live.proofs.seats.finish.Given as goal

abbrev pub invariant-loop-step : goal.invariant-loop-step
invariant-loop-step g l = l.player.seat.desk ≡ l.desk
