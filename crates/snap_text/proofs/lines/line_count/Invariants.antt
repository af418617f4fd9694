-- `line_count` of snap_text (src/lines.rt): what holds at the head of each of its loops.
use Rattle.std.proofs.Common.{length, ◌+◌, ◌≡◌, ◌≤◌}
use Rattle.snap_semantics.specs.Token.{lines_of}
use Rattle.snap_text.proofs.lines.line_count.Given as goal

abbrev pub invariant-loop-rest : goal.invariant-loop-rest
invariant-loop-rest l =
    (l.count + length (lines_of l.rest) ≡ length (lines_of l.text)) × (l.count + length l.rest ≤ length l.text)

abbrev pub decreases-loop-rest : goal.decreases-loop-rest
decreases-loop-rest l = length l.rest
