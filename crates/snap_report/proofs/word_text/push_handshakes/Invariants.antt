-- `push_handshakes` of snap_report (src/word_text.rt): what holds at the head of each of its loops.
use Rattle.std.proofs.Common.{◌≡◌, ◌++◌, drop, false}
use Rattle.snap_semantics.specs.Report.{numbers_text}
use Rattle.snap_report.proofs.word_text.push_handshakes.Given as goal

abbrev pub invariant-loop-place : goal.invariant-loop-place
invariant-loop-place g l =
    let handshakes = (g.K.Kind.as_word l.word).handshakes in
    l.out.failed ≡ false →
    (l.fn.out.failed ≡ false)
    × (l.out.text ++ numbers_text (drop l.place handshakes) ≡ l.fn.out.text ++ numbers_text handshakes)
