-- `run_to_end` of snap_batch (src/course.rt): what holds at the head of each of its loops.
use Rattle.std.specs.List.{flat_map}
use Rattle.snap_sched.specs.Segments.{segment_items}
use Rattle.snap_batch.proofs.Courses.{Going}
use Rattle.snap_batch.proofs.course.run_to_end.Given as goal

-- the first items are done, and those of the segments that are left are left
abbrev pub invariant-loop-segment : goal.invariant-loop-segment
invariant-loop-segment g l =
    Going l.program l.schedule.shape l.schedule.items l.course (flat_map segment_items l.left)
    × (goal.iterator-loop-segment g).can_next l.left × (goal.iterator-loop-segment g).is_finite l.left
