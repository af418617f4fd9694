-- `judge_without_order` of snap_judge (src/judgements.rt).
use Rattle.std.proofs.Common.{subst, sym}
use Rattle.snap_judge.specs.Judgement.{IsFailing}
use Rattle.snap_judge.proofs.Judging.{fails_so}
use Rattle.snap_judge.proofs.judgements.judge_without_order.Goals as goal

pub returns : goal.returns
returns c =
    subst (IsFailing c.args.most c.args.history.now) (sym c.failing_of.ensures)
    (fails_so c.args.most c.args.history.now c.in_ok-judgement.judgement c.in_ok-judgement.ensures)
