-- `stood_from` of snap_judge_reasons (src/grounds.rt).
use Rattle.std.proofs.Common.{ap}
use Rattle.snap_judge.specs.History.{History}
use Rattle.snap_judge.specs.Kept.{operation_of}
use Rattle.snap_judge_reasons.specs.Reasons.{FromAnUpdate}
use Rattle.snap_judge_reasons.proofs.grounds.stood_from.Goals as goal

pub returns-then-is_operation : goal.returns-then-is_operation
returns-then-is_operation c = λ now.
    FromAnUpdate (operation_of c.args.earlier.now) (c.is_operation.ensures c.if-is_operation.true)
    (c.is_update.ensures c.if-is_update.true) (c.ended_before.ensures c.if-ended_before.true)
    (rw (ap (λ (h : History). h.events) c.history.view_is) at (c.is_set_only_at.ensures now))
