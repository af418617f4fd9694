-- `header_at` of snap_explanation (src/explain.rt): what holds at the head of each of its loops.
use Rattle.std.proofs.Common.{◌≡◌, length}
use Rattle.snap_explanation.specs.Explanation.{header_at}
use Rattle.snap_explanation.specs.declared.line_sorts.Header.TheVariants.{Kind}
use Rattle.snap_semantics.specs.Token.{text_lines}
use Rattle.snap_explanation.proofs.explain.header_at.Given as goal

abbrev pub invariant-loop-found : goal.invariant-loop-found
invariant-loop-found l = header_at l.header l.line l.lines ≡ header_at Kind l.line (text_lines l.text)

abbrev pub decreases-loop-found : goal.decreases-loop-found
decreases-loop-found l = length l.lines
