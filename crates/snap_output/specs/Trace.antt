-- A run, item by item: what each item did, and what it changed in the report.
use Rattle.std.specs.Prelude.{ℕ, zero, suc, List, [], ◌++◌, length, map}
use Rattle.snap_semantics.specs.Token.{lines_of}
use Rattle.snap_runs.specs.Run.{Run, before, item, outcome}
use Rattle.snap_text.specs.Changes.{Change, behind_first, changes_between, changes_text}
use Rattle.snap_text.specs.Owned.{owned_text}
use Rattle.snap_listing.specs.LineTexts.{written}
use Rattle.snap_report.specs.RunReport.{report_at}
use Rattle.snap_output.specs.Step.{did_line}

-- The lines of the report after t items but its first one, each of which says of whom it speaks: the values, the
-- registers, the processes with their locals, and the events.
abbrev pub report_lines : Run → ℕ → List (List ℕ)
report_lines r t = lines_of (owned_text [] (behind_first (lines_of (report_at r t))))

-- what item t changed
unfoldable pub item_changes : Run → ℕ → List Change
item_changes r zero = []
item_changes r (suc t) = changes_between (report_lines r t) (report_lines r (suc t))

-- the line of item t: its number, its process, what came of it, and the line of the listing that it ran
unfoldable pub item_line : Run → ℕ → List ℕ
item_line r t = did_line (map written r.source.lines) (before r t) t (item r t) (outcome r t)

-- what is said of item t
abbrev pub item_text : Run → ℕ → List ℕ
item_text r t = item_line r t ++ changes_text (item_changes r t)

-- what is said of the first t items
abbrev pub trace_to : Run → ℕ → List ℕ
trace_to r zero = []
trace_to r (suc t) = trace_to r t ++ item_text r (suc t)

-- what is said of a run
unfoldable pub trace_text : Run → List ℕ
trace_text r = trace_to r (length r.items)

-- what the first t items changed, one after another
abbrev pub changes_to : Run → ℕ → List Change
changes_to r zero = []
changes_to r (suc t) = changes_to r t ++ item_changes r (suc t)
