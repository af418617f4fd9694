-- `report_at`: the printed report of a run after its first t items.
use Rattle.std.specs.Prelude.{ℕ, List, length}
use Rattle.snap_semantics.specs.Report.{report_text}
use Rattle.snap_runs.specs.Run.{Run, state, events_of}

-- the report of the position after t items
abbrev pub report_at : Run → ℕ → List ℕ
report_at r t = report_text r.source.kind (state r t) (events_of r t) t (length r.items)
