-- `a_scan_alone_makes_one` of snap_runs_sharp (src/lib.rt): the proof of what its contract says.
use Rattle.snap_runs_sharp.proofs.NoMore.{scan_alone_makes_one_lem}
use Rattle.snap_runs_sharp.proofs.a_scan_alone_makes_one.Goals as goal

pub returns : goal.returns
returns c = scan_alone_makes_one_lem
