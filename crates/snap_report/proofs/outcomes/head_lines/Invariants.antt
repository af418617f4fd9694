-- `head_lines` of snap_report (src/outcomes.rt): what holds at the head of each of its loops.
use Rattle.std.proofs.Common.{◌≡◌, ◌++◌, ◌+◌, drop, false}
use Rattle.snap_report.specs.OutcomeText.{head_lines}
use Rattle.snap_report.proofs.outcomes.head_lines.Given as goal

abbrev pub invariant-loop-k : goal.invariant-loop-k
invariant-loop-k g l =
    l.out.failed ≡ false →
    (l.fn.out.failed ≡ false)
    × (l.out.text ++ head_lines (l.k + 1) (drop l.k l.machine.state.processes)
    ≡ l.fn.out.text ++ head_lines 1 l.machine.state.processes)
