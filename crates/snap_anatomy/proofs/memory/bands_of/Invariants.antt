-- `bands_of` of snap_anatomy (src/memory.rt): what holds at the head of each of its loops.
use Rattle.std.proofs.Common.{◌≡◌}
use Rattle.snap_anatomy.specs.Memory.{bands_to}
use Rattle.snap_anatomy.proofs.memory.bands_of.Given as goal

abbrev pub invariant-loop-k : goal.invariant-loop-k
invariant-loop-k l = l.bands.items ≡ bands_to l.steps l.k
