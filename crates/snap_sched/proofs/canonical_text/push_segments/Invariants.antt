-- `push_segments` of snap_sched (src/canonical_text.rt): what holds at the head of each of its loops.
use Rattle.std.proofs.Common.{◌≡◌, ◌++◌, map}
use Rattle.snap_semantics.specs.ScheduleText.{forms_text}
use Rattle.snap_sched.specs.Segments.{segment_form}
use Rattle.snap_sched.proofs.canonical_text.push_segments.Given as goal

abbrev pub invariant-loop-segment : goal.invariant-loop-segment
invariant-loop-segment l =
    l.out.items ++ forms_text (map segment_form l.segment-iterator)
    ≡ l.fn.out.items ++ forms_text (map segment_form l.fn.segments)
