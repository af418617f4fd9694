-- `last_before` of snap_acts (src/searches.rt): what holds at the head of each of its loops.
use Rattle.std.proofs.Common.{◌≡◌, ◌≤◌}
use Rattle.snap_acts.specs.Searches.{last_before}
use Rattle.snap_acts.proofs.searches.last_before.Given as goal

abbrev pub invariant-loop-k : goal.invariant-loop-k
invariant-loop-k l = (last_before l.wanted l.steps l.k ≡ last_before l.wanted l.steps l.count) × (l.k ≤ l.count)

abbrev pub decreases-loop-k : goal.decreases-loop-k
decreases-loop-k l = l.k
