-- `u_is_not_strongly_linearizable` of snap_strong (src/lib.rt): the proof of what its contract says.
use Rattle.snap_strong.proofs.NotStrong.{u_is_not_strongly_linearizable_lem}
use Rattle.snap_strong.proofs.u_is_not_strongly_linearizable.Goals as goal

pub returns : goal.returns
returns c = u_is_not_strongly_linearizable_lem
