-- `close` of snap_live (src/closed_desk.rt): the proof of what its contract says.
use Rattle.std.proofs.Common.{◌≡◌, List, sym, ap, ◌∙◌, subst, arith}
use Rattle.snap_live.specs.declared.seat_state.Setting.{Setting}
use Rattle.snap_live.specs.Rule.{OwnTurns}
use Rattle.snap_live.specs.Turns.{setting_of}
use Rattle.snap_live.specs.Shown.{SeatView, DeskView}
use Rattle.snap_live.specs.Closed.{HasSeat, IsIn}
use Rattle.snap_live.proofs.Gathered.{process_in, all_keep}
use Rattle.snap_live.proofs.Handles.{all_more}
use Rattle.snap_live.proofs.closed_desk.close.Goals as goal

pub finish-requires-clause-table_seat : goal.finish-requires-clause-table_seat
finish-requires-clause-table_seat g c κs within =
    let w = c.gather-table_seat.result.me.0 in
    let e = c.gather-table_seat.ensures in
    let all =
    all_more (IsIn w.seen w.owns) c.pop.new.self.items c.args.seats.items c.in-Some-pop.first
    c.in-Some-pop.ensures.items e.others e.first in
    let seats : c.as_slice.result.now ≡ c.args.seats.items = c.as_slice.ensures.value in
    let count : c.desk.inside.table.shared.key.value.shape.n ≡ c.desk.inside.count = sym c.desk.invariant.2 in (
      e.table_seat.1,
      λ p one le. process_in p w.seen w.owns c.args.seats.items
          (subst (λ (l : List SeatView). HasSeat p l) seats (c.in_default.ensures p (one, omega arith))) all,
    )

pub returns-clause-kept : goal.returns-clause-kept
returns-clause-kept g c =
    let w = c.gather-table_seat.result.me.0 in
    let e = c.gather-table_seat.ensures in
    let all =
    all_more (IsIn w.seen w.owns) c.pop.new.self.items c.args.seats.items c.in-Some-pop.first
    c.in-Some-pop.ensures.items e.others e.first in
    let f = c.finish.ensures in
    let base : setting_of c.desk.inside.table.shared.key.value ≡ c.args.desk.base =
    ap (λ (x : DeskView). x.base) c.desk.view_is in (
      f.base ∙ base,
      all_keep c.args.desk.base c.finish.result.items w.seen w.owns c.args.seats.items f.seen
          (subst (λ (b : Setting). OwnTurns b c.finish.result.items w.owns) base f.turns) all,
    )

pub returns-clause-whole : goal.returns-clause-whole
returns-clause-whole g c =
    let seats : c.as_slice.result.now ≡ c.args.seats.items = c.as_slice.ensures.value in
    let count : c.desk.inside.count ≡ c.args.desk.base.shape.n =
    c.desk.invariant.2 ∙ ap (λ (x : DeskView). x.base.shape.n) c.desk.view_is in
    λ p one. subst (λ (l : List SeatView). HasSeat p l) seats (c.in_default.ensures p (one.0, omega arith))
