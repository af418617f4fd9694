-- `batch_alone` of snap_batch (src/lib.rt): what holds at the head of each of its loops.
use Rattle.std.proofs.Common.{◌≡◌, ◌++◌, drop, map}
use Rattle.snap_batch.specs.End.{end_report}
use Rattle.snap_batch.proofs.batch_alone.Given as goal

-- the reports so far, and those of the schedules that are left
abbrev pub invariant-loop-schedule : goal.invariant-loop-schedule
invariant-loop-schedule l =
    l.collected.items ++ map (end_report l.program) (drop l.schedule-index l.schedules)
    ≡ map (end_report l.program) l.schedules
