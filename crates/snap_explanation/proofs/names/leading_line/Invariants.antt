-- `leading_line` of snap_explanation (src/names.rt): what holds at the head of each of its loops.
use Rattle.std.proofs.Common.{◌≡◌, length}
use Rattle.snap_explanation.specs.Names.{leading_line}
use Rattle.snap_semantics.specs.Token.{text_lines}
use Rattle.snap_explanation.proofs.names.leading_line.Given as goal

abbrev pub invariant-loop-line : goal.invariant-loop-line
invariant-loop-line l = leading_line l.number l.lines ≡ leading_line l.number (text_lines l.text)

abbrev pub decreases-loop-line : goal.decreases-loop-line
decreases-loop-line l = length l.lines
