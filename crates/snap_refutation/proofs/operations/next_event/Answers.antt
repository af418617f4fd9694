-- `next_event` of snap_refutation (src/operations.rt).
use Rattle.snap_judge.proofs.KeptSteps.{found_here, found_later}
use Rattle.snap_refutation.proofs.operations.next_event.Goals as goal

pub returns-then-event-process : goal.returns-then-event-process
returns-then-event-process c =
    found_here c.args.process c.loop-event.event-index c.args.events.now c.event-item.result c.loop-event-test.true
    c.event-item.is c.if-event-process.true c.loop-event.invariant

pub loop-event-preserved : goal.loop-event-preserved
loop-event-preserved c =
    found_later c.args.process c.loop-event.event-index c.args.events.now c.event-item.result c.loop-event-test.true
    c.event-item.is c.if-event-process.false c.loop-event.invariant
