-- `push_chain` of snap_why (src/answer.rt): what holds at the head of each of its loops.
use Rattle.std.proofs.Common.{◌≡◌, ◌++◌, ◌≤◌, IfSome, Some, length, false}
use Rattle.snap_acts.specs.declared.loans.ScanPlaces.{ScanPlaces}
use Rattle.snap_why.specs.Answer.{chain_lines}
use Rattle.snap_why.proofs.answer.push_chain.Given as goal

-- what has been added, and what is left to add
abbrev pub invariant-loop-left : goal.invariant-loop-left
invariant-loop-left l =
    (l.out.failed ≡ false →
    (l.fn.out.failed ≡ false)
    × (l.out.text ++ chain_lines l.steps l.next l.left
    ≡ l.fn.out.text ++ chain_lines l.steps (Some l.fn.first) (length l.steps)))
    × IfSome l.next (λ (s : ScanPlaces). s.to ≤ length l.steps)

abbrev pub decreases-loop-left : goal.decreases-loop-left
decreases-loop-left l = l.left
