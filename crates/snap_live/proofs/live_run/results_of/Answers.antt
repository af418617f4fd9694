-- `results_of` of snap_live (src/live_run.rt): the proof of what its contract says.
use Rattle.std.proofs.Common.{◌∙◌, ap, sym, rules}
use Rattle.snap_live.specs.Worker.{WorkedView}
use Rattle.snap_live.specs.LiveRun.{then_first}
use Rattle.snap_live.proofs.Handles.{adds_to}
use Rattle.snap_live.proofs.Workers.{first-push}
use Rattle.snap_live.proofs.live_run.results_of.Goals as goal

pub loop-one-preserved : goal.loop-one-preserved
loop-one-preserved g c =
    let i = c.loop-one.invariant in
    let w = c.in-Some.one in
    let p = c.parts_of-seat.ensures in record {
      seats =
          adds_to (λ (w : WorkedView). w.seat) c.loop-one.yielded w c.loop-one.seats.items
          c.push_reserved.new.self.items c.parts_of-seat.result.0 c.push_reserved.ensures.items i.seats p.0;
      turns =
          adds_to (λ (w : WorkedView). w.turns) c.loop-one.yielded w c.loop-one.turns.items
          c.push_reserved-in-loop-one.new.self.items c.parts_of-seat.result.1
          c.push_reserved-in-loop-one.ensures.items i.turns p.1;
      first =
          c.then_first-first.ensures
          ∙ (λ k. then_first (i.first k) ((c.process.ensures ∙ ap (λ s. s.process) p.0) k) (p.2 k))
          ∙ sym (first-push c.loop-one.yielded w);
      room = search rules;
    }
