-- `new_word_rows` of snap_machine (src/fresh.rt): what holds at the head of each of its loops.
use Rattle.std.proofs.Common.{◌≡◌, map, replicate}
use Rattle.snap_words.specs.Kind.{initial_word}
use Rattle.snap_words.specs.Shape.{places}
use Rattle.snap_machine.proofs.fresh.new_word_rows.Given as goal

abbrev pub invariant-loop-k : goal.invariant-loop-k
invariant-loop-k g l =
    map (λ xs. map g.K.Kind.as_word xs.items) l.rows.items
    ≡ replicate l._k (replicate (places l.shape) (initial_word g.K.Kind.TAG l.shape))
