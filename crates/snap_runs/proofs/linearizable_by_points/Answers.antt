-- `linearizable_by_points` of snap_runs (src/lib.rt): the proof of what its contract says.
use Rattle.snap_runs.proofs.Linear as linear
use Rattle.snap_runs.proofs.linearizable_by_points.Goals as goal

pub returns : goal.returns
returns c = linear.linearizable_by_points
