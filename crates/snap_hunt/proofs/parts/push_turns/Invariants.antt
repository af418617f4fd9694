-- `push_turns` of snap_hunt (src/parts.rt): what holds at the head of each of its loops.
use Rattle.std.proofs.Common.{◌-◌}
use Rattle.snap_hunt.proofs.parts.push_turns.Given as goal

abbrev pub decreases-loop-from : goal.decreases-loop-from
decreases-loop-from l = l.turns - l.from
