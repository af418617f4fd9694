-- `push_words` of snap_explanation (src/names.rt): what holds at the head of each of its loops.
use Rattle.std.proofs.Common.{◌≡◌, ◌++◌, map, length}
use Rattle.snap_explanation.specs.Names.{words_of}
use Rattle.snap_text.specs.Tokens.{view_tokens}
use Rattle.snap_explanation.proofs.names.push_words.Given as goal

abbrev pub invariant-loop-rest : goal.invariant-loop-rest
invariant-loop-rest l =
    map (λ w. w.now) l.words.items ++ words_of (view_tokens l.rest)
    ≡ map (λ w. w.now) l.fn.words.items ++ words_of (view_tokens l.tokens)

abbrev pub decreases-loop-rest : goal.decreases-loop-rest
decreases-loop-rest l = length l.rest
