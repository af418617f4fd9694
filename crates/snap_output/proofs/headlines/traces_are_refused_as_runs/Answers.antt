-- `traces_are_refused_as_runs` of snap_output (src/headlines.rt): the proof of what its contract says.
use Rattle.snap_output.proofs.Alike.{traces_as_runs}
use Rattle.snap_output.proofs.headlines.traces_are_refused_as_runs.Goals as goal

pub returns : goal.returns
returns c = traces_as_runs
