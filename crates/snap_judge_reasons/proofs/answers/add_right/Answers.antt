-- `add_right` of snap_judge_reasons (src/answers.rt).
use Rattle.snap_judge_reasons.proofs.NextAnswers.{one_more}
use Rattle.snap_judge_reasons.proofs.answers.add_right.Goals as goal

pub returns-in_ok-push-clause-right : goal.returns-in_ok-push-clause-right
returns-in_ok-push-clause-right c =
    let e = c.args.event.now in
    let found = rw c.in-Some.is at c.in_ok-view.ensures.some in
    rw c.in_ok-push.ensures.items
    (one_more c.args.front.now e.process e.item c.args.views.now.items c.in-Some.view c.requires.right c.requires.few
    (rw found.0 (rw c.deref.ensures.value at (c.is_among.ensures c.if-is_among.false))) found.1)
