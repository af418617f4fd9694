-- `runs_are_snapshots` of snap_runs_of_u (src/lib.rt): the proof of what its contract says.
use Rattle.snap_runs_of_u.proofs.Every.{runs_are_snapshots_lem}
use Rattle.snap_runs_of_u.proofs.runs_are_snapshots.Goals as goal

pub returns : goal.returns
returns c = runs_are_snapshots_lem
