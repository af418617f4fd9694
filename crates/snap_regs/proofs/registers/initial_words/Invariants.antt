-- `initial_words` of snap_regs (src/registers.rt): what holds at the head of each of its loops.
use Rattle.std.proofs.Common.{◌≡◌, replicate}
use Rattle.std.specs.Prelude.{map}
use Rattle.snap_words.specs.Kind.{initial_word}
use Rattle.snap_regs.proofs.registers.initial_words.Given as goal

abbrev pub invariant-loop-i : goal.invariant-loop-i
invariant-loop-i g l = map g.K.Kind.as_word l.words.items ≡ replicate l.i (initial_word g.K.Kind.TAG l.shape)
