-- `gather` of snap_live (src/closed_desk.rt): what holds at the head of each of its loops.
use Rattle.std.proofs.Common.{◌≡◌}
use Rattle.std.specs.Prelude.{All}
use Rattle.std.specs.Vec.Iter.{into_iter_items}
use Rattle.snap_live.specs.Seats.{IsIdle}
use Rattle.snap_live.specs.Closed.{IsIn}
use Rattle.snap_live.proofs.closed_desk.gather.Given as goal

abbrev pub invariant-loop-seat : goal.invariant-loop-seat
invariant-loop-seat g l = record {
  table : l.table_seat.table_id ≡ l.initial.table_seat.table_id;
  idle : IsIdle l.table_seat.me;
  base : l.table_seat.me.0.base ≡ l.initial.table_seat.me.0.base;
  first : IsIn l.table_seat.me.0.seen l.table_seat.me.0.owns l.fn.first;
  others : All (IsIn l.table_seat.me.0.seen l.table_seat.me.0.owns) l.yielded;
  rest : All (λ s. s.desk ≡ l.fn.first.desk) (into_iter_items l.seat-iterator);
}
