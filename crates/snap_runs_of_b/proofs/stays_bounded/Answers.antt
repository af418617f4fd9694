-- `stays_bounded` of snap_runs_of_b (src/lib.rt): the proof of what its contract says.
use Rattle.snap_runs_of_b.proofs.Bounded.{stays_bounded_lem}
use Rattle.snap_runs_of_b.proofs.stays_bounded.Goals as goal

pub returns : goal.returns
returns c = stays_bounded_lem
