-- `turn_end` of snap_hunt (src/orders.rt): what holds at the head of each of its loops.
use Rattle.std.proofs.Common.{◌≤◌, ◌-◌, length}
use Rattle.snap_hunt.proofs.orders.turn_end.Given as goal

-- the end so far
abbrev pub invariant-loop-end : goal.invariant-loop-end
invariant-loop-end l = record { after : l.at ≤ l.end; inside : l.end ≤ length l.items }

abbrev pub decreases-loop-end : goal.decreases-loop-end
decreases-loop-end l = length l.items - l.end
