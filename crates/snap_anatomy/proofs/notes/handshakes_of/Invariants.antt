-- `handshakes_of` of snap_anatomy (src/notes.rt): what holds at the head of each of its loops.
use Rattle.std.proofs.Common.{◌≡◌, take}
use Rattle.snap_anatomy.proofs.notes.handshakes_of.Given as goal

abbrev pub invariant-loop-place : goal.invariant-loop-place
invariant-loop-place g l = l.bits.items ≡ take l.place (g.K.Kind.as_word l.word).handshakes
