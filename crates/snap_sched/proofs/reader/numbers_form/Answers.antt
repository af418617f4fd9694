-- `numbers_form` of snap_sched (src/reader.rt): the proof of what its contract says.
use Rattle.std.proofs.Common.{◌≡◌, ap, ◌∙◌, Some}
use Rattle.snap_semantics.specs.ScheduleForms.{item_form}
use Rattle.snap_text.specs.Numbers.{number_tokens}
use Rattle.snap_sched.proofs.Lines.{no_steps}
use Rattle.snap_sched.proofs.reader.numbers_form.Goals as goal

pub returns-in-Some-eq0 : goal.returns-in-Some-eq0
returns-in-Some-eq0 c =
    let none : c.args.line.now.second ≡ Some 0 = cc (c.in-Some-eq0.is, c.in-Some-eq0.field-0-is) in
    ap (λ o. item_form (number_tokens c.args.line.now.first o)) none ∙ no_steps c.args.line.now.first
