-- `sharp_collects_are_reached_by_b` of snap_runs_sharp (src/lib.rt): the proof of what its contract says.
use Rattle.snap_runs_sharp.specs.Schedules.{schedule_of_b}
use Rattle.snap_runs_sharp.proofs.ReachedByB.{schedule_of_b_reaches_lem}
use Rattle.snap_runs_sharp.proofs.sharp_collects_are_reached_by_b.Goals as goal

pub returns : goal.returns
returns c n counts = (schedule_of_b n, schedule_of_b_reaches_lem n counts)
