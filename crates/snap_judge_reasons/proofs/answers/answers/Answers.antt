-- `answers` of snap_judge_reasons (src/answers.rt).
use Rattle.std.proofs.Common.{◌-◌, ◌∙◌, ap}
use Rattle.std.proofs.lemmas.Result.{IfOk-weaker}
use Rattle.snap_judge.specs.History.{History}
use Rattle.snap_judge.proofs.KeptSteps.{history_up_to}
use Rattle.snap_judge_reasons.proofs.Fronts.{answering_history}
use Rattle.snap_judge_reasons.proofs.NextAnswers.{right_in_place}
use Rattle.snap_judge_reasons.proofs.answers.answers.Goals as goal

pub propose-requires : goal.propose-requires
propose-requires c =
    rw c.in_ok-front.ensures (history_up_to c.args.history.now (c.args.count - 1) c.requires.history)

pub right_ones-requires : goal.right_ones-requires
right_ones-requires c = λ view count.
    let h = c.args.history.now in
    rw (c.last_event-event.ensures, c.in_ok-front.ensures)
    (answering_history h c.args.count c.args.view.now view c.requires.history c.requires.count c.requires.answer
    (count ∙ ap (λ (f : History). f.shape.w) c.in_ok-front.ensures))

pub returns : goal.returns
returns c =
    IfOk-weaker c.right_ones.result _ _
    (λ views are. right_in_place c.args.history.now c.args.count c.args.view.now views.items c.requires.count
    c.requires.answer (rw (c.last_event-event.ensures, c.in_ok-front.ensures) at are))
    c.right_ones.ensures
