-- `StepCounter::finish` of snap_hunt (src/step_counter.rt).
use Rattle.snap_hunt.proofs.Counting.{all_counted, to_be_passed}
use Rattle.snap_hunt.proofs.step_counter.StepCounter.finish.Goals as goal

pub pass-requires : goal.pass-requires
pass-requires g c =
    to_be_passed c.requires.0 c.args.walk.now c.requires.1 c.args.self.most c.done.result c.args.self c.requires.2
    c.requires.3 c.done.ensures.done

pub returns : goal.returns
returns g c =
    all_counted c.requires.0 c.args.walk.now c.requires.1 c.args.self.most c.done.result c.args.self c.requires.2
    c.requires.3 c.done.ensures.done c.pass.new.self c.pass.ensures.counted
