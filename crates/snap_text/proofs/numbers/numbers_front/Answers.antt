-- `numbers_front` of snap_text (src/numbers.rt): the proof of what its contract says.
use Rattle.std.proofs.Common.{◌∷◌, ap, ◌∙◌}
use Rattle.snap_text.proofs.Digits.{number_alone, number_starred}
use Rattle.snap_text.proofs.numbers.numbers_front.Goals as goal

pub returns-then-symbol-eq10 : goal.returns-then-symbol-eq10
returns-then-symbol-eq10 c =
    let rest = c.in_ok-symbol.rest.now in
    number_alone c.args.bytes.now c.in_ok-first.behind.now rest c.in_ok-first.first c.in_ok-first.ensures
    (c.in_ok-symbol.ensures.cases.0 ∙ ap (λ b. b ∷ rest) c.if-symbol-eq10.true)

pub returns : goal.returns
returns c =
    let starred = c.in_ok-symbol.rest.now in
    let rest = c.in_ok-end.rest.now in
    number_starred c.args.bytes.now c.in_ok-first.behind.now starred c.in_ok-second.behind.now rest
    c.in_ok-first.first c.in_ok-second.second c.in_ok-first.ensures
    (c.in_ok-symbol.ensures.cases.0 ∙ ap (λ b. b ∷ starred) c.if-symbol-ne42.false) c.in_ok-second.ensures
    (c.in_ok-end.ensures.cases.0 ∙ ap (λ b. b ∷ rest) c.if-end-ne10.false)
