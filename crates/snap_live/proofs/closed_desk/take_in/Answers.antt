-- `take_in` of snap_live (src/closed_desk.rt): the proof of what its contract says.
use Rattle.std.proofs.Common.{ap}
use Rattle.snap_live.specs.Rule.{Mine}
use Rattle.snap_live.proofs.Gathered.{in_left, in_right}
use Rattle.snap_live.proofs.closed_desk.take_in.Goals as goal

pub returns-clause-knows : goal.returns-clause-knows
returns-clause-knows g c =
    in_right _ _ c.args.table_seat.now.me.0.owns c.table_seat_of.result.me.0.owns _ c.args.seat
    (ap (λ (m : Mine). m.0.owns) c.join.ensures.seat.1) c.join.ensures.told.1.0 c.table_seat_of.ensures.knows

pub returns-clause-knew : goal.returns-clause-knew
returns-clause-knew g c = λ s h.
    in_left _ _ c.args.table_seat.now.me.0.owns c.table_seat_of.result.me.0.owns _ s
    (ap (λ (m : Mine). m.0.owns) c.join.ensures.seat.1) c.join.ensures.told.0 h
