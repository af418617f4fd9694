-- `is_idle_step` of snap_batch (src/course.rt): the proof of what its contract says.
use Rattle.snap_semantics.specs.declared.process.Reason.TheVariants as reason
use Rattle.snap_batch.proofs.Courses.{skipped_does_nothing}
use Rattle.snap_batch.proofs.course.is_idle_step.Goals as goal

pub returns-in-Idle : goal.returns-in-Idle
returns-in-Idle g c = λ _.
    let m = c.args.machine.now in
    skipped_does_nothing m.source m.shape m.state c.args.item reason.Idle
    (rw (c.in-Step.is, ← c.status.ensures, c.in-Idle.is))

pub returns-in-Trapped : goal.returns-in-Trapped
returns-in-Trapped g c = λ _.
    let m = c.args.machine.now in
    skipped_does_nothing m.source m.shape m.state c.args.item reason.Trapped
    (rw (c.in-Step.is, ← c.status.ensures, c.in-Trapped.is))

pub returns-in-Crashed : goal.returns-in-Crashed
returns-in-Crashed g c = λ _.
    let m = c.args.machine.now in
    skipped_does_nothing m.source m.shape m.state c.args.item reason.Crashed
    (rw (c.in-Step.is, ← c.status.ensures, c.in-Crashed.is))
