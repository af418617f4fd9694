-- `number_front` of snap_text (src/numbers.rt): the proof of what its contract says.
use Rattle.std.proofs.Common.{◌<◌, ◌≤◌, length, sym, ◌∙◌, arith}
use Rattle.std.proofs.lemmas.Grind.{common_steps}
use Rattle.snap_text.proofs.Digits.{first_digit, one_more}
use Rattle.snap_text.proofs.numbers.number_front.Goals as goal

pub loop-len-init : goal.loop-len-init
loop-len-init c =
    first_digit _ _ _ _ c.in_ok-digit.ensures.cases.0
    (sym c.is_digit.ensures ∙ c.if-not-is_digit.false) c.from-value.ensures

pub loop-len-preserved : goal.loop-len-preserved
loop-len-preserved c =
    let more : c.loop-len.len < length c.args.bytes.now = omega arith in
    let some : 0 < c.loop-len.value = grind (arith, common_steps) in
    let few : c.loop-len.value ≤ 99999999 = grind (arith, common_steps) in
    one_more c.args.bytes.now c.loop-len.len c.loop-len.value 0 c.from.result c.loop-len.invariant more
    (sym c.is_digit-in-loop-len.ensures ∙ c.if-is_digit.true) some few c.from.ensures
