-- `push_operations` of snap_history_text (src/operations.rt): what holds at the head of each of its loops.
use Rattle.std.proofs.Common.{◌≡◌, ◌++◌, drop, false}
use Rattle.snap_history_text.specs.JudgementText.{operation_lines}
use Rattle.snap_history_text.proofs.operations.push_operations.Given as goal

abbrev pub invariant-loop-operation : goal.invariant-loop-operation
invariant-loop-operation l =
    l.out.failed ≡ false →
    (l.fn.out.failed ≡ false)
    × (l.out.text ++ operation_lines (drop l.operation-index l.operations)
    ≡ l.fn.out.text ++ operation_lines l.fn.operations)
