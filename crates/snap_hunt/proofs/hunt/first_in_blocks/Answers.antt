-- `first_in_blocks` of snap_hunt (src/hunt.rt): the proof of what its contract says.
use Rattle.std.proofs.Common.{arith}
use Rattle.snap_hunt.proofs.Sides.{found_first, none_more}
use Rattle.snap_hunt.proofs.hunt.first_in_blocks.Goals as goal

pub returns-then-is_some : goal.returns-then-is_some
returns-then-is_some g c = grind (arith, found_first)

pub loop-from-preserved : goal.loop-from-preserved
loop-from-preserved g c = record { inside = omega arith; none = grind (arith, none_more) }
