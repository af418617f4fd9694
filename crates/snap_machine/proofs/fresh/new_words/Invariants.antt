-- `new_words` of snap_machine (src/fresh.rt): what holds at the head of each of its loops.
use Rattle.std.proofs.Common.{map, ◌≡◌, replicate}
use Rattle.snap_words.specs.Kind.{initial_word}
use Rattle.snap_machine.proofs.fresh.new_words.Given as goal

abbrev pub invariant-loop-k : goal.invariant-loop-k
invariant-loop-k g l = map g.K.Kind.as_word l.words.items ≡ replicate l._k (initial_word g.K.Kind.TAG l.shape)
