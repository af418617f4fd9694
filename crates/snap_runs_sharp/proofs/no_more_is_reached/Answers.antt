-- `no_more_is_reached` of snap_runs_sharp (src/lib.rt): the proof of what its contract says.
use Rattle.snap_runs_sharp.proofs.NoMore.{no_more_is_reached_lem}
use Rattle.snap_runs_sharp.proofs.no_more_is_reached.Goals as goal

pub returns : goal.returns
returns c = no_more_is_reached_lem
