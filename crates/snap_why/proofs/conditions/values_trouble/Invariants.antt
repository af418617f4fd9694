-- `values_trouble` of snap_why (src/conditions.rt): what holds at the head of each of its loops.
use Rattle.std.proofs.Common.{◌≡◌, ◌+◌}
use Rattle.snap_why.specs.Troubles.{values_trouble}
use Rattle.snap_why.proofs.conditions.values_trouble.Given as goal

-- no place before this one traps
abbrev pub invariant-loop-left : goal.invariant-loop-left
invariant-loop-left g l =
    (values_trouble l.machine.shape l.machine.state l.taker l.expr l.condition l.place l.left
    ≡ values_trouble l.machine.shape l.machine.state l.taker l.expr l.condition 1 l.count)
    × (l.place + l.left ≡ l.count + 1)

abbrev pub decreases-loop-left : goal.decreases-loop-left
decreases-loop-left g l = l.left
