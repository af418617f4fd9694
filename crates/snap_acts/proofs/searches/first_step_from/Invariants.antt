-- `first_step_from` of snap_acts (src/searches.rt): what holds at the head of each of its loops.
use Rattle.std.proofs.Common.{◌≡◌, ◌-◌, drop, length}
use Rattle.snap_acts.specs.Searches.{first_meeting}
use Rattle.snap_acts.proofs.searches.first_step_from.Given as goal

abbrev pub invariant-loop-k : goal.invariant-loop-k
invariant-loop-k l = first_meeting l.wanted (drop l.k l.steps) ≡ first_meeting l.wanted (drop l.from l.steps)

abbrev pub decreases-loop-k : goal.decreases-loop-k
decreases-loop-k l = length l.steps - l.k
