-- `same_handshakes` of snap_words (src/contents.rt): what holds at the head of each of its loops.
use Rattle.std.proofs.Common.{◌≡◌, bytes_eq, drop, length}
use Rattle.snap_words.proofs.contents.same_handshakes.Given as goal

abbrev pub invariant-loop-place : goal.invariant-loop-place
invariant-loop-place g l =
    let xs = (g.K.Kind.as_word l.x).handshakes in
    let ys = (g.K.Kind.as_word l.y).handshakes in
    (length xs ≡ l.count) × (length ys ≡ l.count) × (bytes_eq (drop l.place xs) (drop l.place ys) ≡ bytes_eq xs ys)
