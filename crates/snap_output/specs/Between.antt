-- `between`: the lines of a report that differ from one state of a run to the next, of the whole report, and of one
-- process and the registers.
use Rattle.std.specs.Prelude.{ℕ, List, [], ◌++◌}
use Rattle.snap_words.specs.declared.kind.KindTag.{KindTag}
use Rattle.snap_semantics.specs.declared.event.Event.{Event}
use Rattle.snap_semantics.specs.Report.{event_lines, process_lines, processes_lines, register_lines, values_line}
use Rattle.snap_semantics.specs.State.{State, process_at, values}
use Rattle.snap_semantics.specs.Token.{lines_of}
use Rattle.snap_text.specs.Changes.{text_between}
use Rattle.snap_text.specs.Owned.{owned_text}

-- a text of which each line says of whom it speaks
abbrev pub owned : List ℕ → List ℕ
owned text = owned_text [] (lines_of text)

-- what changed from one text to another
abbrev pub between : List ℕ → List ℕ → List ℕ
between a b = text_between (lines_of (owned a)) (lines_of (owned b))

-- a report behind its first line
abbrev pub state_text : KindTag → State → List Event → List ℕ
state_text g S es =
    values_line (values S) ++ register_lines g S.memory ++ processes_lines g 1 S.processes ++ event_lines es

-- the report text of process i alone
abbrev pub process_text : KindTag → ℕ → State → List Event → List ℕ
process_text g i S es =
    values_line (values S) ++ register_lines g S.memory ++ process_lines g i (process_at S i) ++ event_lines es
