-- `lexeme_len` of snap_text (src/lexer.rt): what holds at the head of each of its loops.
use Rattle.std.proofs.Common.{◌≡◌, ◌≤◌, ◌-◌, ◌+◌, drop, length}
use Rattle.snap_text.specs.Tokens.{lexeme_len}
use Rattle.snap_text.proofs.lexer.lexeme_len.Given as goal

abbrev pub invariant-loop-len : goal.invariant-loop-len
invariant-loop-len l = (l.len + lexeme_len (drop l.len l.bytes) ≡ lexeme_len l.bytes) × (l.len ≤ length l.bytes)

abbrev pub decreases-loop-len : goal.decreases-loop-len
decreases-loop-len l = length l.bytes - l.len
