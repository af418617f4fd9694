-- `last_before` of snap_explanation (src/names.rt): what holds at the head of each of its loops.
use Rattle.std.proofs.Common.{◌≡◌, length}
use Rattle.snap_semantics.specs.Token.{text_lines}
use Rattle.snap_explanation.specs.Names.{last_before}
use Rattle.snap_explanation.proofs.names.last_before.Given as goal

abbrev pub invariant-loop-found : goal.invariant-loop-found
invariant-loop-found l =
    last_before l.line l.last l.lines ≡ last_before l.line (record { line = 0; number = 0 }) (text_lines l.text)

abbrev pub decreases-loop-found : goal.decreases-loop-found
decreases-loop-found l = length l.lines
