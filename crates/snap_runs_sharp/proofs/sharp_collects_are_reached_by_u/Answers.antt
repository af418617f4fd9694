-- `sharp_collects_are_reached_by_u` of snap_runs_sharp (src/lib.rt): the proof of what its contract says.
use Rattle.snap_runs_sharp.specs.Schedules.{schedule_of_u}
use Rattle.snap_runs_sharp.proofs.ReachedByU.{schedule_of_u_reaches_lem}
use Rattle.snap_runs_sharp.proofs.sharp_collects_are_reached_by_u.Goals as goal

pub returns : goal.returns
returns c n counts = (schedule_of_u n, schedule_of_u_reaches_lem n counts)
