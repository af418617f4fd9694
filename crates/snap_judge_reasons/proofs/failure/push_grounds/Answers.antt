-- `push_grounds` of snap_judge_reasons (src/failure.rt).
use Rattle.snap_judge_reasons.proofs.failure.push_grounds.Goals as goal

pub returns-in-Unset : goal.returns-in-Unset
returns-in-Unset c = rw c.in-Unset.is (c.push_unset.ensures c.args.reason.now.second)
