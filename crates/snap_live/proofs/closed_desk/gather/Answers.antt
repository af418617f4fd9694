-- `gather` of snap_live (src/closed_desk.rt): the proof of what its contract says.
use Rattle.std.proofs.Common.{◌+◌, ◌∙◌, List, rules, subst, get_or, sym}
use Rattle.std.specs.Prelude.{All}
use Rattle.std.proofs.lemmas.List.{map-id}
use Rattle.std.proofs.lemmas.List.Elements.{All-push}
use Rattle.std.proofs.lemmas.Iterator.Adapters.{YieldsList-from_vec}
use Rattle.std.proofs.lemmas.Iterator.Consumers.{YieldsList-end}
use Rattle.snap_live.specs.Shown.{SeatView}
use Rattle.snap_live.specs.Closed.{IsIn}
use Rattle.snap_live.proofs.closed_desk.gather.Goals as goal

pub loop-seat-preserved : goal.loop-seat-preserved
loop-seat-preserved g c =
    let i = c.loop-seat.invariant in
    let t = c.take_in.ensures in
    let w = c.take_in.new.table_seat.me.0 in record {
      table = t.table_seat.0 ∙ i.table;
      idle = t.table_seat.1;
      base = t.table_seat.2 ∙ i.base;
      first = t.knew c.args.first i.first;
      others =
          All-push (IsIn w.seen w.owns) c.loop-seat.yielded c.in-Some.seat
          (λ k d lt. t.knew (get_or c.loop-seat.yielded k d) (i.others k d lt)) t.knows;
      rest = λ k d below. let h = i.rest (k + 1) d in grind rules;
    }

pub returns-clause-others : goal.returns-clause-others
returns-clause-others g c =
    let w = c.loop-seat.table_seat.me.0 in
    let all = YieldsList-from_vec c.args.seats.items (search rules) (search rules) in
    let e =
    YieldsList-end all c.loop-seat.yielded c.loop-seat.seat-iterator c.loop-seat.yielded_by c.next.result
    c.next.new.self c.in-None.is c.next.ensures.steps in
    subst (λ (l : List SeatView). All (IsIn w.seen w.owns) l)
    (sym (map-id c.loop-seat.yielded) ∙ e.0) c.loop-seat.invariant.others
