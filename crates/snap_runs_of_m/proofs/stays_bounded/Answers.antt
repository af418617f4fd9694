-- `stays_bounded` of snap_runs_of_m (src/lib.rt): the proof of what its contract says.
use Rattle.snap_runs_of_m.proofs.Bounded.{stays_bounded_lem}
use Rattle.snap_runs_of_m.proofs.stays_bounded.Goals as goal

pub returns : goal.returns
returns c = stays_bounded_lem
