-- `conditions_trouble` of snap_why (src/conditions.rt): what holds at the head of each of its loops.
use Rattle.std.proofs.Common.{◌≡◌, ◌+◌}
use Rattle.snap_why.specs.Troubles.{conditions_trouble}
use Rattle.snap_why.proofs.conditions.conditions_trouble.Given as goal

-- no place before this one traps
abbrev pub invariant-loop-left : goal.invariant-loop-left
invariant-loop-left g l =
    (conditions_trouble l.machine.shape l.machine.state l.taker l.condition l.place l.left
    ≡ conditions_trouble l.machine.shape l.machine.state l.taker l.condition 1 l.count)
    × (l.place + l.left ≡ l.count + 1)

abbrev pub decreases-loop-left : goal.decreases-loop-left
decreases-loop-left g l = l.left
