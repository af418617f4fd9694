-- `linearizable` of snap_runs_of_m (src/lib.rt): the proof of what its contract says.
use Rattle.snap_runs_of_m.proofs.Every.{linearizable_lem}
use Rattle.snap_runs_of_m.proofs.linearizable.Goals as goal

pub returns : goal.returns
returns c = linearizable_lem
