-- `schedule_of_u_reaches` of snap_runs_sharp (src/lib.rt): the proof of what its contract says.
use Rattle.snap_runs_sharp.proofs.ReachedByU.{schedule_of_u_reaches_lem}
use Rattle.snap_runs_sharp.proofs.schedule_of_u_reaches.Goals as goal

pub returns : goal.returns
returns c = schedule_of_u_reaches_lem
