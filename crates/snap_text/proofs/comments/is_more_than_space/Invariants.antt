-- `is_more_than_space` of snap_text (src/comments.rt): what holds at the head of each of its loops.
use Rattle.std.proofs.Common.{◌≡◌, drop}
use Rattle.snap_semantics.specs.Token.{tokens_of}
use Rattle.snap_text.specs.Tokens.{has_tokens}
use Rattle.snap_text.proofs.comments.is_more_than_space.Given as goal

-- all before the place reached is space
abbrev pub invariant-loop-b : goal.invariant-loop-b
invariant-loop-b l = has_tokens (tokens_of (drop l.b-index l.line)) ≡ has_tokens (tokens_of l.line)
