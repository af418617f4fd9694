-- `sort_lines` of snap_report (src/process_text.rt): what holds at the head of each of its loops.
use Rattle.std.proofs.Common.{◌≡◌, ◌++◌, ◌-◌, false}
use Rattle.snap_semantics.specs.State.{process_at}
use Rattle.snap_report.specs.ReportLines.{sort_lines}
use Rattle.snap_report.proofs.Lines.{lines_from}
use Rattle.snap_report.proofs.process_text.sort_lines.Given as goal

abbrev pub invariant-loop-local : goal.invariant-loop-local
invariant-loop-local g l =
    let locals = (process_at l.machine.state l.i).locals in
    l.out.failed ≡ false →
    (l.fn.out.failed ≡ false)
    × (l.out.text ++ lines_from l.machine.source.kind l.sort locals l.k
    ≡ l.fn.out.text ++ sort_lines l.machine.source.kind l.sort locals)

abbrev pub decreases-loop-local : goal.decreases-loop-local
decreases-loop-local g l = 32 - l.k
