-- `count_steps` of snap_prompt (src/steps.rt): the proof of what its contract says.
use Rattle.std.proofs.Common.{◌∙◌, true, false, arith}
use Rattle.snap_prompt.specs.Reach.{steps_from}
use Rattle.snap_prompt.proofs.Goals.{goes_on}
use Rattle.snap_prompt.proofs.steps.count_steps.Goals as goal

pub returns-then-has_reached : goal.returns-then-has_reached
returns-then-has_reached g c =
    let m = c.args.machine.now in
    let here = c.loop-taken.machine in
    goes_on here.source here.shape c.args.process c.loop-taken.taken c.args.most c.args.goal here.state
    c.apply.new.self.state c.in_ok-apply.field-0 true
    (steps_from m.source m.shape c.args.process c.args.goal 0 c.args.most m.state)
    (let t = c.loop-taken-test.true in omega (arith, t)) c.in_ok-apply.ensures.done (cc) c.loop-taken.invariant.all

pub loop-taken-preserved : goal.loop-taken-preserved
loop-taken-preserved g c =
    let m = c.args.machine.now in
    let here = c.loop-taken.machine in
    let moved = c.in_ok-apply.ensures in
    record {
      shape = moved.shape ∙ c.loop-taken.invariant.shape;
      all = rw (moved.source, moved.shape)
          (goes_on here.source here.shape c.args.process c.loop-taken.taken c.args.most c.args.goal here.state
          c.apply.new.self.state c.in_ok-apply.field-0 false
          (steps_from m.source m.shape c.args.process c.args.goal 0 c.args.most m.state)
          (let t = c.loop-taken-test.true in omega (arith, t)) moved.done (cc) c.loop-taken.invariant.all);
    }
