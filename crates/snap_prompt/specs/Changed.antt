-- What the prompt shows of a move of the session: `item_text`, the last item and the line that it ran, and `changed`,
-- what differs in the state.
use Rattle.std.specs.Prelude.{ℕ, ◌-◌, Bool, true, false, List, [], ◌++◌, Option, Some}
use Rattle.std.specs.Prelude.{None, map, if◌then◌else◌}
use Rattle.snap_words.specs.declared.kind.KindTag.{KindTag}
use Rattle.snap_semantics.specs.Readers.{line_of}
use Rattle.snap_semantics.specs.Report.{processes_lines, register_lines}
use Rattle.snap_semantics.specs.State.{State, process_at}
use Rattle.snap_semantics.specs.Token.{lines_of}
use Rattle.snap_semantics.specs.declared.process.Outcome.{Outcome}
use Rattle.snap_semantics.specs.declared.process.Outcome.TheVariants as outcome
use Rattle.snap_runs.specs.Run.{Run, state}
use Rattle.snap_report.specs.OutcomeLine.{outcome_line}
use Rattle.snap_text.specs.Changes.{text_between}
use Rattle.snap_text.specs.Owned.{owned_text}
use Rattle.snap_listing.specs.LineTexts.{NumberedText, written}
use Rattle.snap_debug.specs.Replies.{last_of}
use Rattle.snap_debug.specs.Session.{Session, state_of}

-- The report of a state: its registers, and its processes with their locals. Each line says of whom it speaks.
unfoldable pub state_text : KindTag → State → List ℕ
state_text kind s = owned_text [] (lines_of (register_lines kind s.memory ++ processes_lines kind 1 s.processes))

-- What changed from one state to another: of the lines of their reports those that differ, old
-- and new, in the report's order.
unfoldable pub changed : KindTag → State → State → List ℕ
changed kind old new = text_between (lines_of (state_text kind old)) (lines_of (state_text kind new))

-- whether an item that came out so ran a line
abbrev pub ran : Outcome → Bool
ran outcome.Called = false
ran outcome.Crashed = false
ran (outcome.Skipped reason) = false
ran _ = true

-- the line that the last item ran, which is the one at which its process was before it
abbrev pub line_run : Run → ℕ → Option (ℕ × Outcome) → Option ℕ
line_run r t None = None
line_run r t (Some o) = if ran o.1 then line_of (process_at (state r (t - 1)) o.0).status else None

-- the line of the last item, where there is one
abbrev pub last_line : List NumberedText → ℕ → Option (ℕ × Outcome) → Option ℕ → List ℕ
last_line texts t None line = []
last_line texts t (Some o) line = outcome_line texts t o.0 o.1 line

-- the last of the first t items, where there is one
unfoldable pub item_text : Run → ℕ → List ℕ
item_text r t = last_line (map written r.source.lines) t (last_of r t) (line_run r t (last_of r t))

-- what is said of a move from one session to another
unfoldable pub moved_text : Session → Session → List ℕ
moved_text old new = item_text new.run new.position ++ changed new.run.source.kind (state_of old) (state_of new)
