-- `traps_are_warned_of` of snap_lint (src/lib.rt): the proof of what its contract says.
use Rattle.snap_lint.proofs.Sound.{traps_are_warned_of}
use Rattle.snap_lint.proofs.traps_are_warned_of.Goals as goal

pub returns : goal.returns
returns c = traps_are_warned_of
