-- `bank_lines` of snap_report (src/register_text.rt): what holds at the head of each of its loops.
use Rattle.std.proofs.Common.{◌≡◌, ◌++◌, ◌+◌, drop, false}
use Rattle.snap_semantics.specs.Report.{bank_lines}
use Rattle.snap_report.specs.ReportLines.{bank_text, rows_of}
use Rattle.snap_report.proofs.register_text.bank_lines.Given as goal

abbrev pub invariant-loop-i : goal.invariant-loop-i
invariant-loop-i g l =
    l.out.failed ≡ false →
    (l.fn.out.failed ≡ false)
    × (l.out.text ++ bank_lines (bank_text l.bank) (l.i + 1) (drop l.i (rows_of l.bank l.machine.state.memory))
    ≡ l.fn.out.text ++ bank_lines (bank_text l.bank) 1 (rows_of l.bank l.machine.state.memory))
