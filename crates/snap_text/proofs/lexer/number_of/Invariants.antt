-- `number_of` of snap_text (src/lexer.rt): what holds at the head of each of its loops.
use Rattle.std.proofs.Common.{◌≡◌, ◌-◌, drop, length}
use Rattle.snap_semantics.specs.Token.{number_of}
use Rattle.snap_text.proofs.lexer.number_of.Given as goal

abbrev pub invariant-loop-k : goal.invariant-loop-k
invariant-loop-k l = number_of l.value (drop l.k l.digits) ≡ number_of 0 l.digits

abbrev pub decreases-loop-k : goal.decreases-loop-k
decreases-loop-k l = length l.digits - l.k
