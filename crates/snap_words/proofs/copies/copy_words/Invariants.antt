-- `copy_words` of snap_words (src/copies.rt): what holds at the head of each of its loops.
use Rattle.std.proofs.Common.{◌≡◌, take}
use Rattle.snap_words.proofs.copies.copy_words.Given as goal

abbrev pub invariant-loop-word : goal.invariant-loop-word
invariant-loop-word g l = l.copies.items ≡ take l.word-index l.words
