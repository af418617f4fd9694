-- `operations_are_all` of snap_refutation (src/lib.rt): the proof of what its contract says.
use Rattle.snap_refutation.proofs.Listed.{operations_are_all}
use Rattle.snap_refutation.proofs.operations_are_all.Goals as goal

pub returns : goal.returns
returns c = operations_are_all
