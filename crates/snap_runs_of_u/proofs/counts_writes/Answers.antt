-- `counts_writes` of snap_runs_of_u (src/lib.rt): the proof of what its contract says.
use Rattle.snap_runs_of_u.proofs.Bounded.{counts_writes_lem}
use Rattle.snap_runs_of_u.proofs.counts_writes.Goals as goal

pub returns : goal.returns
returns c = counts_writes_lem
