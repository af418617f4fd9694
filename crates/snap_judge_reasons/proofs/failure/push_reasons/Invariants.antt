-- `push_reasons` of snap_judge_reasons (src/failure.rt): what holds at the head of each of its loops.
use Rattle.std.proofs.Common.{◌≡◌, ◌++◌, drop, false}
use Rattle.snap_judge_reasons.specs.FailureText.{reason_lines}
use Rattle.snap_judge_reasons.proofs.failure.push_reasons.Given as goal

abbrev pub invariant-loop-reason : goal.invariant-loop-reason
invariant-loop-reason l =
    l.draft.failed ≡ false →
    (l.fn.draft.failed ≡ false)
    × (l.draft.text ++ reason_lines (drop l.reason-index l.reasons) ≡ l.fn.draft.text ++ reason_lines l.reasons)
