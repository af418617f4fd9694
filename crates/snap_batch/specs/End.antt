-- `end_report`, the report of the end of a listing's run over a schedule, and `IsEnd`, a machine that has come there.
use Rattle.std.specs.Prelude.{◌≡◌, ℕ, List, length}
use Rattle.snap_semantics.specs.Run.{after, events}
use Rattle.snap_semantics.specs.Schedule.{Schedule}
use Rattle.snap_semantics.specs.Source.{Source}
use Rattle.snap_semantics.specs.State.{initial}
use Rattle.snap_report.specs.RunReport.{report_at}
use Rattle.snap_runs.specs.Run.{run_over}
use Rattle.snap_batch.specs.declared.course.Course.{Course}

-- a machine that has gone through a schedule, with all that callers saw
pub record IsEnd {K W : Type 0} (l : Source) (s : Schedule) (c : Course K W) : Type 0 where
  pub source : c.machine.source ≡ l
  pub shape : c.machine.shape ≡ s.shape
  pub state : c.machine.state ≡ after l s.shape (initial l s.shape) s.items
  pub events : c.events.items ≡ events l s.shape (initial l s.shape) 1 s.items
  pub number : c.done ≡ length s.items

-- the report of the end of a listing's run over a schedule
unfoldable pub end_report : Source → Schedule → List ℕ
end_report l s = report_at (run_over l s) (length s.items)
