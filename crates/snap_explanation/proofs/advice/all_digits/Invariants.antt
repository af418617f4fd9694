-- `all_digits` of snap_explanation (src/advice.rt): what holds at the head of its loop.
use Rattle.std.proofs.Common.{◌≡◌, length}
use Rattle.std.specs.List.{list_all}
use Rattle.snap_semantics.specs.Token.{is_digit}
use Rattle.snap_explanation.proofs.advice.all_digits.Given as goal

abbrev pub invariant-loop-rest : goal.invariant-loop-rest
invariant-loop-rest l = list_all is_digit l.rest ≡ list_all is_digit l.piece

abbrev pub decreases-loop-rest : goal.decreases-loop-rest
decreases-loop-rest l = length l.rest
