-- `two_digits_line` of snap_text (src/numbers.rt): the proof of what its contract says.
use Rattle.std.proofs.Common.{◌≡◌, ◌<◌, ◌+◌, ◌-◌, ◌*◌, true, ap, sym, ◌∙◌, arith}
use Rattle.std.proofs.lemmas.Grind.{common_steps}
use Rattle.snap_semantics.specs.Token.{is_digit}
use Rattle.snap_text.proofs.Digits.{digit_within, two_alone}
use Rattle.snap_text.proofs.numbers.two_digits_line.Goals as goal

pub returns-then-is_digit-2 : goal.returns-then-is_digit-2
returns-then-is_digit-2 c =
    let tens = c.in_ok-tens.tens.now in
    let first : is_digit tens ≡ true = sym c.is_digit.ensures ∙ c.if-is_digit.true in
    let low = (digit_within tens first).0 in
    let above : 48 < tens = grind (arith, common_steps) in
    two_alone _ _ _ _ _ _ _ _ c.in_ok-tens.ensures.cases.0 c.in_ok-ones.ensures.cases.0 c.in_ok-end.ensures.cases.0
    c.if-end-ne10.false first (sym c.is_digit-then-is_digit.ensures ∙ c.if-is_digit-2.true) above
    (ap (λ k. k * 10 + c.from-then-is_digit-2.result) c.from.ensures
    ∙ ap (λ k. (tens - 48) * 10 + k) c.from-then-is_digit-2.ensures)
