-- `first_within` of snap_acts (src/searches.rt): what holds at the head of each of its loops.
use Rattle.std.proofs.Common.{◌≡◌, ◌+◌}
use Rattle.snap_acts.specs.Searches.{first_within}
use Rattle.snap_acts.proofs.searches.first_within.Given as goal

abbrev pub invariant-loop-left : goal.invariant-loop-left
invariant-loop-left l =
    (first_within l.wanted l.steps l.k l.left ≡ first_within l.wanted l.steps l.from l.count)
    × (l.k + l.left ≡ l.from + l.count)

abbrev pub decreases-loop-left : goal.decreases-loop-left
decreases-loop-left l = l.left
