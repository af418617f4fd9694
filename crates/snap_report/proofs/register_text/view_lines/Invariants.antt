-- `view_lines` of snap_report (src/register_text.rt): what holds at the head of each of its loops.
use Rattle.std.proofs.Common.{◌≡◌, ◌++◌, ◌+◌, drop, false}
use Rattle.snap_semantics.specs.Report.{view_lines}
use Rattle.snap_report.proofs.register_text.view_lines.Given as goal

abbrev pub invariant-loop-i : goal.invariant-loop-i
invariant-loop-i g l =
    l.out.failed ≡ false →
    (l.fn.out.failed ≡ false)
    × (l.out.text ++ view_lines (l.i + 1) (drop l.i l.machine.state.memory.views)
    ≡ l.fn.out.text ++ view_lines 1 l.machine.state.memory.views)
