-- `strong_is_linearizable` of snap_strong (src/lib.rt): the proof of what its contract says.
use Rattle.snap_strong.proofs.Completed.{strong_is_linearizable_lem}
use Rattle.snap_strong.proofs.strong_is_linearizable.Goals as goal

pub returns : goal.returns
returns c = strong_is_linearizable_lem
