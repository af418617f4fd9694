-- `has_word` of snap_explanation (src/names.rt): what holds at the head of its loop.
use Rattle.std.proofs.Common.{◌≡◌, length}
use Rattle.snap_explanation.specs.Names.{has_word}
use Rattle.snap_text.specs.Tokens.{view_tokens}
use Rattle.snap_explanation.proofs.names.has_word.Given as goal

abbrev pub invariant-loop-rest : goal.invariant-loop-rest
invariant-loop-rest l = has_word l.word (view_tokens l.rest) ≡ has_word l.word (view_tokens l.tokens)

abbrev pub decreases-loop-rest : goal.decreases-loop-rest
decreases-loop-rest l = length l.rest
