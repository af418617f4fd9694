-- `push_reports` of snap_output (src/batch_output.rt): what holds at the head of each of its loops.
use Rattle.std.proofs.Common.{◌≡◌, ◌++◌, ◌+◌, drop, false}
use Rattle.snap_batch.specs.Reports.{reports_text}
use Rattle.snap_output.proofs.batch_output.push_reports.Given as goal

-- the reports so far, and those that are left
abbrev pub invariant-loop-k : goal.invariant-loop-k
invariant-loop-k l =
    l.out.failed ≡ false →
    (l.fn.out.failed ≡ false)
    × (l.out.text ++ reports_text (l.k + 1) (drop l.k l.reports) ≡ l.fn.out.text ++ reports_text 1 l.reports)
