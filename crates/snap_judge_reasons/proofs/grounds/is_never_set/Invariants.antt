-- `is_never_set` of snap_judge_reasons (src/grounds.rt): what its loop keeps.
use Rattle.std.proofs.Common.{take}
use Rattle.snap_judge_reasons.specs.Reasons.{IsNeverSet}
use Rattle.snap_judge_reasons.proofs.grounds.is_never_set.Given as goal

abbrev pub invariant-loop-event : goal.invariant-loop-event
invariant-loop-event l =
    IsNeverSet (take l.event-index l.events) l.word l.value
