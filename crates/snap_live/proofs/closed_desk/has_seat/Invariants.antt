-- `has_seat` of snap_live (src/closed_desk.rt): what holds at the head of each of its loops.
use Rattle.std.proofs.Common.{drop}
use Rattle.snap_live.specs.Closed.{HasSeat}
use Rattle.snap_live.proofs.closed_desk.has_seat.Given as goal

abbrev pub invariant-loop-seat : goal.invariant-loop-seat
invariant-loop-seat g l = HasSeat l.process l.seats → HasSeat l.process (drop l.seat-index l.seats)
