-- `runs_are_snapshots` of snap_runs_of_m (src/lib.rt): the proof of what its contract says.
use Rattle.snap_runs_of_m.proofs.Every.{runs_are_snapshots_lem}
use Rattle.snap_runs_of_m.proofs.runs_are_snapshots.Goals as goal

pub returns : goal.returns
returns c = runs_are_snapshots_lem
