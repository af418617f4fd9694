-- `sharp_collects_are_reached_by_m` of snap_runs_sharp (src/lib.rt): the proof of what its contract says.
use Rattle.snap_runs_sharp.specs.Schedules.{schedule_of_m}
use Rattle.snap_runs_sharp.proofs.ReachedByM.{schedule_of_m_reaches_lem}
use Rattle.snap_runs_sharp.proofs.sharp_collects_are_reached_by_m.Goals as goal

pub returns : goal.returns
returns c n w shape = (schedule_of_m n w, schedule_of_m_reaches_lem n w shape)
