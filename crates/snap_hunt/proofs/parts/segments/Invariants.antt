-- `segments` of snap_hunt (src/parts.rt): what holds at the head of each of its loops.
use Rattle.std.proofs.Common.{◌-◌, length}
use Rattle.snap_hunt.proofs.parts.segments.Given as goal

abbrev pub decreases-loop-at : goal.decreases-loop-at
decreases-loop-at l = length l.items - l.at
