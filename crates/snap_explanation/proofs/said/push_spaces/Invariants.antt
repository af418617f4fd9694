-- `push_spaces` of snap_explanation (src/said.rt): what holds at the head of each of its loops.
use Rattle.std.proofs.Common.{replicate}
use Rattle.snap_explanation.proofs.Grown.{AddsBut}
use Rattle.snap_explanation.proofs.said.push_spaces.Given as goal

abbrev pub invariant-loop-left : goal.invariant-loop-left
invariant-loop-left l = AddsBut l.fn.out l.out (replicate l.left 32) (replicate l.count 32)

abbrev pub decreases-loop-left : goal.decreases-loop-left
decreases-loop-left l = l.left
