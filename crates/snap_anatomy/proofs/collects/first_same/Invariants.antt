-- `first_same` of snap_anatomy (src/collects.rt): what holds at the head of each of its loops.
use Rattle.std.proofs.Common.{◌≡◌, drop}
use Rattle.snap_anatomy.specs.Collects.{first_same}
use Rattle.snap_anatomy.proofs.collects.first_same.Given as goal

abbrev pub invariant-loop-k : goal.invariant-loop-k
invariant-loop-k l = first_same l.steps l.name (drop l.k-index l.reads) ≡ first_same l.steps l.name l.reads
