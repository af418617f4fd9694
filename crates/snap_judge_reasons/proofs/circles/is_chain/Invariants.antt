-- `is_chain` of snap_judge_reasons (src/circles.rt): what its loop keeps.
use Rattle.std.proofs.Common.{drop}
use Rattle.snap_judge.specs.Kept.{operation_of}
use Rattle.snap_judge_reasons.specs.Reasons.{IsChain}
use Rattle.snap_judge_reasons.proofs.circles.is_chain.Given as goal

-- a chain of the reasons that are left makes one of all
abbrev pub invariant-loop-reason : goal.invariant-loop-reason
invariant-loop-reason l =
    IsChain l.history (operation_of l.at) (drop l.reason-index l.reasons) (operation_of l.to) →
    IsChain l.history (operation_of l.from) l.reasons (operation_of l.to)
