-- `silent_never_traps` of snap_lint (src/lib.rt): the proof of what its contract says.
use Rattle.snap_lint.proofs.Sound.{silent_never_traps}
use Rattle.snap_lint.proofs.silent_never_traps.Goals as goal

pub returns : goal.returns
returns c = silent_never_traps
