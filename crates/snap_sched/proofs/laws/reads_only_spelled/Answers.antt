-- `reads_only_spelled` of snap_sched (src/laws.rt): the proof of what its contract says.
use Rattle.snap_sched.proofs.Fitting.{read_is_spelled_and_fits}
use Rattle.snap_sched.proofs.laws.reads_only_spelled.Goals as goal

pub returns : goal.returns
returns c = read_is_spelled_and_fits
