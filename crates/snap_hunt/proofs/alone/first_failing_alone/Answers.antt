-- `first_failing_alone` of snap_hunt (src/alone.rt): the proof of what its contract says.
use Rattle.std.proofs.Common.{arith}
use Rattle.snap_hunt.proofs.Sides.{found_first, none_more}
use Rattle.snap_hunt.proofs.alone.first_failing_alone.Goals as goal

pub returns-then-is_some : goal.returns-then-is_some
returns-then-is_some c = grind (arith, found_first)

pub loop-run-preserved : goal.loop-run-preserved
loop-run-preserved c = record { inside = omega arith; none = grind (arith, none_more) }
