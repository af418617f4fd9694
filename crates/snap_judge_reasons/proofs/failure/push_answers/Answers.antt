-- `push_answers` of snap_judge_reasons (src/failure.rt).
use Rattle.std.proofs.Common.{append_assoc}
use Rattle.std.proofs.lemmas.List.{drop_more}
use Rattle.snap_judge_reasons.proofs.failure.push_answers.Goals as goal

pub loop-view-preserved : goal.loop-view-preserved
loop-view-preserved c = λ well.
    let e = c.push_answer.ensures well in
    let held = c.loop-view.invariant e.0 in
    let more = drop_more c.args.views.now c.loop-view.view-index c.view-item.result c.loop-view-test.true in
    (held.0, rw (e.1, append_assoc) (rw (more, ← c.view-item.is) at held.1))
