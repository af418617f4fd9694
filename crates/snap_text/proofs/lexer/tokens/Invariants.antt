-- `tokens` of snap_text (src/lexer.rt): what holds at the head of each of its loops.
use Rattle.std.proofs.Common.{◌≡◌, length}
use Rattle.snap_semantics.specs.Token.{tokens_of}
use Rattle.snap_text.specs.Tokens.{view_tokens}
use Rattle.snap_text.proofs.Lexemes.{prepend}
use Rattle.snap_text.proofs.lexer.tokens.Given as goal

-- the tokens so far, and those of the rest
abbrev pub invariant-loop-rest : goal.invariant-loop-rest
invariant-loop-rest l = prepend (view_tokens l.out.items) (tokens_of l.rest) ≡ tokens_of l.line

abbrev pub decreases-loop-rest : goal.decreases-loop-rest
decreases-loop-rest l = length l.rest
