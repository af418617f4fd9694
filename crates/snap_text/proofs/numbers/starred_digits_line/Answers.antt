-- `starred_digits_line` of snap_text (src/numbers.rt): the proof of what its contract says.
use Rattle.std.proofs.Common.{sym, ◌∙◌}
use Rattle.snap_text.proofs.Digits.{starred_alone}
use Rattle.snap_text.proofs.numbers.starred_digits_line.Goals as goal

pub returns-then-is_digit-2 : goal.returns-then-is_digit-2
returns-then-is_digit-2 c =
    starred_alone _ _ _ _ _ _ _ _ _ _ _ c.in_ok-first.ensures.cases.0 c.in_ok-star.ensures.cases.0
    c.in_ok-second.ensures.cases.0 c.in_ok-end.ensures.cases.0 c.if-star-ne42.false c.if-end-ne10.false
    (sym c.is_digit.ensures ∙ c.if-is_digit.true) (sym c.is_digit-then-is_digit.ensures ∙ c.if-is_digit-2.true)
    c.from.ensures c.from-then-is_digit-2.ensures
