-- `has_seat` of snap_live (src/closed_desk.rt): the proof of what its contract says.
use Rattle.std.proofs.Common.{ap, sym, ◌∙◌}
use Rattle.snap_live.specs.Shown.{SeatView}
use Rattle.snap_live.proofs.Gathered.{has_at}
use Rattle.snap_live.proofs.closed_desk.has_seat.Goals as goal

pub returns-then-process : goal.returns-then-process
returns-then-process g c =
    has_at _ _ _ c.seat-item.result c.loop-seat-test.true
    (sym (ap (λ (s : SeatView). s.process) c.seat-item.is) ∙ sym c.process.ensures ∙ c.if-process.true)
