-- `words_before` of snap_explanation (src/names.rt): what holds at the head of each of its loops.
use Rattle.std.proofs.Common.{◌≡◌, ◌++◌, map}
use Rattle.snap_explanation.specs.Names.{words_before}
use Rattle.snap_semantics.specs.Token.{text_lines}
use Rattle.snap_explanation.proofs.names.words_before.Given as goal

abbrev pub invariant-loop-left : goal.invariant-loop-left
invariant-loop-left l =
    map (λ w. w.now) l.words.items ++ words_before l.line l.left l.lines ≡ words_before l.line 7 (text_lines l.text)

abbrev pub decreases-loop-left : goal.decreases-loop-left
decreases-loop-left l = l.left
