-- `first_mark` of snap_anatomy (src/collects.rt): what holds at the head of each of its loops.
use Rattle.std.proofs.Common.{◌≡◌, ◌+◌}
use Rattle.snap_anatomy.specs.Collects.{first_mark}
use Rattle.snap_anatomy.proofs.collects.first_mark.Given as goal

abbrev pub invariant-loop-left : goal.invariant-loop-left
invariant-loop-left l =
    (first_mark l.steps l.notes l.process l.k l.left ≡ first_mark l.steps l.notes l.process l.from l.count)
    × (l.k + l.left ≡ l.from + l.count)

abbrev pub decreases-loop-left : goal.decreases-loop-left
decreases-loop-left l = l.left
