-- `push_answers` of snap_judge_reasons (src/failure.rt): what holds at the head of each of its loops.
use Rattle.std.proofs.Common.{◌≡◌, ◌++◌, drop, false}
use Rattle.snap_judge_reasons.specs.FailureText.{answer_lines}
use Rattle.snap_judge_reasons.proofs.failure.push_answers.Given as goal

abbrev pub invariant-loop-view : goal.invariant-loop-view
invariant-loop-view l =
    l.draft.failed ≡ false →
    (l.fn.draft.failed ≡ false)
    × (l.draft.text ++ answer_lines (drop l.view-index l.views) ≡ l.fn.draft.text ++ answer_lines l.views)
