-- `places_between` of snap_anatomy (src/collects.rt): what holds at the head of each of its loops.
use Rattle.std.proofs.Common.{◌≡◌}
use Rattle.snap_anatomy.specs.Collects.{places_in}
use Rattle.snap_anatomy.proofs.collects.places_between.Given as goal

abbrev pub invariant-loop-k : goal.invariant-loop-k
invariant-loop-k l = l.places.items ≡ places_in l.sought l.steps l.process l.from l.k
