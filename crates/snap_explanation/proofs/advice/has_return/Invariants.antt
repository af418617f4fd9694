-- `has_return` of snap_explanation (src/advice.rt): what holds at the head of its loop.
use Rattle.std.proofs.Common.{◌≡◌, length}
use Rattle.snap_explanation.specs.Advice.{has_return}
use Rattle.snap_explanation.proofs.advice.has_return.Given as goal

abbrev pub invariant-loop-rest : goal.invariant-loop-rest
invariant-loop-rest l = has_return l.rest ≡ has_return l.line

abbrev pub decreases-loop-rest : goal.decreases-loop-rest
decreases-loop-rest l = length l.rest
