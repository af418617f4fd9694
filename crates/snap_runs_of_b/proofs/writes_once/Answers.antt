-- `writes_once` of snap_runs_of_b (src/lib.rt): the proof of what its contract says.
use Rattle.snap_runs_of_b.proofs.Every.{writes_once_lem}
use Rattle.snap_runs_of_b.proofs.writes_once.Goals as goal

pub returns : goal.returns
returns c = writes_once_lem
