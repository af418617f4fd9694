-- `Course::take_times` of snap_batch (src/course.rt): the proof of what its contract says.
use Rattle.std.proofs.Common.{rules, ◌≡◌, ◌+◌, ◌-◌, arith, refl}
use Rattle.snap_batch.proofs.Courses.{takes_idle, takes_once_more}
use Rattle.snap_batch.proofs.course.Course.take_times.Goals as goal

pub loop-self-preserved-then-is_idle_step : goal.loop-self-preserved-then-is_idle_step
loop-self-preserved-then-is_idle_step g c =
    let from = c.args.self.now in
    let here = c.loop-self.self in
    let end = from.done + c.args.count in
    let begun = c.loop-self.invariant.begun in
    let within = c.loop-self.invariant.within in
    record {
      taken =
          takes_idle from here (record { machine = here.machine; events = here.events; done = end })
          (here.done - from.done) (end - here.done) (end - from.done) c.args.item
          (omega (arith, begun, within)) c.loop-self.invariant.taken
          (c.is_idle_step.ensures c.if-is_idle_step.true) refl refl (omega (arith, within));
      begun = omega arith;
      within = omega arith;
    }

pub loop-self-preserved : goal.loop-self-preserved
loop-self-preserved g c =
    let from = c.args.self.now in
    let here = c.loop-self.self in
    let there = c.take.new.self in
    let begun = c.loop-self.invariant.begun in
    let took = c.in_ok-take.ensures in
    let number : there.done ≡ here.done + 1 = took.number in
    record {
      taken =
          takes_once_more from here there (here.done - from.done) (there.done - from.done) c.args.item
          (omega (arith, begun, number)) c.loop-self.invariant.taken took;
      begun = omega (arith, begun, number);
      within = search rules;
    }
