-- `SumsToReport`: the changes of a trace, made one after another in the first report of a run, give its later
-- reports.
use Rattle.std.specs.Prelude.{◌≡◌, ℕ}
use Rattle.snap_runs.specs.Run.{Run}
use Rattle.snap_text.specs.Changes.{put_all}
use Rattle.snap_output.specs.Trace.{changes_to, report_lines}

-- The report is the sum of the trace: put into the lines of the beginning one after another, the changes of the first
-- t items make the lines of the report after them.
abbrev pub SumsToReport : Type 0
SumsToReport = (r : Run) (t : ℕ) → put_all (changes_to r t) (report_lines r 0) ≡ report_lines r t
