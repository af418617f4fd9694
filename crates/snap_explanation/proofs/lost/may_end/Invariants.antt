-- `may_end` of snap_explanation (src/lost.rt): what holds at the head of each of its loops.
use Rattle.std.proofs.Common.{◌≡◌, length}
use Rattle.snap_explanation.specs.Lost.{may_end}
use Rattle.snap_explanation.proofs.lost.may_end.Given as goal

abbrev pub invariant-loop-rest : goal.invariant-loop-rest
invariant-loop-rest l = may_end l.rest ≡ may_end l.parts

abbrev pub decreases-loop-rest : goal.decreases-loop-rest
decreases-loop-rest l = length l.rest
