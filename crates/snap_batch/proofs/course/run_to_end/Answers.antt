-- `run_to_end` of snap_batch (src/course.rt): the proof of what its contract says.
use Rattle.snap_batch.proofs.Courses.{next_fits, some_more}
use Rattle.snap_batch.proofs.course.run_to_end.Goals as goal

pub take_times-requires-clause-process : goal.take_times-requires-clause-process
take_times-requires-clause-process g c κs within = λ some.
    let s = c.args.schedule.now in
    next_fits c.args.program.now s.shape s.items c.loop-segment.left c.next.new.self c.in-Some.segment
    c.loop-segment.course c.repeated-item.result.0 c.repeated-item.result.1
    c.loop-segment.invariant.0 c.in-Some.ensures.steps c.repeated-item.ensures some

pub loop-segment-preserved : goal.loop-segment-preserved
loop-segment-preserved g c =
    let s = c.args.schedule.now in (
      some_more c.args.program.now s.shape s.items c.loop-segment.left c.next.new.self c.in-Some.segment
          c.loop-segment.course c.take_times.new.self
          c.repeated-item.result.0 c.repeated-item.result.1
          c.loop-segment.invariant.0 c.in-Some.ensures.steps c.repeated-item.ensures c.in_ok-take_times.ensures,
      tt,
      tt,
    )
