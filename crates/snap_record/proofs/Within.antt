-- The run of a listing over a schedule (`run_over`) is a valid one (`IsValidRun`).
use Rattle.snap_semantics.specs.Schedule.{Schedule}
use Rattle.snap_semantics.specs.ScheduleText.{IsSchedule}
use Rattle.snap_semantics.specs.Source.{Source}
use Rattle.snap_runs.specs.Run.{IsValidRun, run_over}

pub run_fits : (l : Source) (s : Schedule) → IsSchedule s → IsValidRun (run_over l s)
run_fits l s h = record { all = h.processes }
