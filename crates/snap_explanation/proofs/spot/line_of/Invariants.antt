-- `line_of` of snap_explanation (src/spot.rt): what holds at the head of each of its loops.
use Rattle.std.proofs.Common.{◌≡◌, length}
use Rattle.snap_explanation.specs.Spot.{nth_line}
use Rattle.snap_semantics.specs.Token.{lines_of}
use Rattle.snap_explanation.proofs.spot.line_of.Given as goal

abbrev pub invariant-loop-rest : goal.invariant-loop-rest
invariant-loop-rest l = nth_line l.left (lines_of l.rest) ≡ nth_line l.number (lines_of l.text)

abbrev pub decreases-loop-rest : goal.decreases-loop-rest
decreases-loop-rest l = length l.rest
