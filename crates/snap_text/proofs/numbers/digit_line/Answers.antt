-- `digit_line` of snap_text (src/numbers.rt): the proof of what its contract says.
use Rattle.std.proofs.Common.{sym, ◌∙◌}
use Rattle.snap_text.proofs.Digits.{digit_alone}
use Rattle.snap_text.proofs.numbers.digit_line.Goals as goal

pub returns-then-is_digit : goal.returns-then-is_digit
returns-then-is_digit c =
    digit_alone _ _ _ _ _ _ c.in_ok-digit.ensures.cases.0 c.in_ok-end.ensures.cases.0 c.if-end-ne10.false
    (sym c.is_digit.ensures ∙ c.if-is_digit.true) c.from.ensures
