-- `schedule_of_m_reaches` of snap_runs_sharp (src/lib.rt): the proof of what its contract says.
use Rattle.snap_runs_sharp.proofs.ReachedByM.{schedule_of_m_reaches_lem}
use Rattle.snap_runs_sharp.proofs.schedule_of_m_reaches.Goals as goal

pub returns : goal.returns
returns c = schedule_of_m_reaches_lem
