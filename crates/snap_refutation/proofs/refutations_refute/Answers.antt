-- `refutations_refute` of snap_refutation (src/lib.rt): the proof of what its contract says.
use Rattle.snap_refutation.proofs.Refuting.{refutations_refute}
use Rattle.snap_refutation.proofs.refutations_refute.Goals as goal

pub returns : goal.returns
returns c = refutations_refute
