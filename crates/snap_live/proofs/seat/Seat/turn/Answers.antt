-- `Seat::turn` of snap_live (src/seat.rt): the proof of what its contract says.
use Rattle.std.proofs.Common.{subst, ◌+◌}
use Rattle.snap_live.specs.Shown.{IsTurn, SeatView}
use Rattle.snap_live.proofs.Opening.{turns_seat, seat_view}
use Rattle.snap_live.proofs.seat.Seat.turn.Goals as goal

pub returns-in-Ok-clause-turn : goal.returns-in-Ok-clause-turn
returns-in-Ok-clause-turn g c =
    let i = c.self.inside in
    let n = c.one_turn.new.table_seat in
    let t = c.in-Ok.turn in
    subst (λ (b : SeatView).
    IsTurn b (seat_view n.table_id n.me i.process (i.asked + 1)) c.args.item t.number t.outcome) c.self.view_is
    (turns_seat i.table_seat.table_id n.table_id i.table_seat.me n.me i.process i.asked
    (i.asked + 1) t.number c.args.item t.outcome c.in-Ok.ensures.turn c.self.invariant.1)
