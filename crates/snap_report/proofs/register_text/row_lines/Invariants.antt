-- `row_lines` of snap_report (src/register_text.rt): what holds at the head of each of its loops.
use Rattle.std.proofs.Common.{◌≡◌, ◌++◌, ◌+◌, drop, false}
use Rattle.snap_semantics.specs.Report.{row_lines}
use Rattle.snap_report.specs.ReportLines.{bank_text, row_at}
use Rattle.snap_report.proofs.register_text.row_lines.Given as goal

abbrev pub invariant-loop-j : goal.invariant-loop-j
invariant-loop-j g l =
    l.out.failed ≡ false →
    (l.fn.out.failed ≡ false)
    × (l.out.text ++ row_lines (bank_text l.bank) l.i (l.j + 1) (drop l.j (row_at l.bank l.i l.machine.state.memory))
    ≡ l.fn.out.text ++ row_lines (bank_text l.bank) l.i 1 (row_at l.bank l.i l.machine.state.memory))
