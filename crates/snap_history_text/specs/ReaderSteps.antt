-- What the reader of histories makes of the next line, and what it knows of the processes.
use Rattle.std.specs.Prelude.{ℕ, List, [], ◌∷◌, ◌++◌, map, Option, Some, None, Result, Ok, Err}
use Rattle.snap_words.specs.Shape.{Counts}
use Rattle.snap_semantics.specs.declared.event.Event.{Event}
use Rattle.snap_semantics.specs.Answers.{◌>>=◌}
use Rattle.snap_semantics.specs.Rules.{form_or}
use Rattle.snap_semantics.specs.ScheduleForms.{shape_form}
use Rattle.snap_semantics.specs.Token.{TextLine}
use Rattle.snap_judge.specs.History.{Caller, Free, Busy, Gone}
use Rattle.snap_history_text.specs.HistoryText.{line_event}
use Rattle.snap_history_text.specs.declared.callers.Caller as code
use Rattle.snap_history_text.specs.declared.callers.Caller.TheVariants as given
use Rattle.snap_history_text.specs.declared.refusal.HistoryRefusal.{HistoryRefusal}
use Rattle.snap_history_text.specs.declared.refusal.HistoryRefusal.TheVariants as refusal

-- what a process is at, as the code keeps it
abbrev pub view_caller : code.Caller → Caller
view_caller given.Free = Free
view_caller (given.Busy o) = Busy o
view_caller given.Gone = Gone

abbrev pub view_callers : List code.Caller → List Caller
view_callers callers = map view_caller callers

-- the event of the first line, and the lines behind it; none where there is no line
abbrev pub next_event :
    Counts → ℕ → List Caller → List TextLine → Result (Option (Event × List TextLine)) HistoryRefusal
next_event shape last callers [] = Ok None
next_event shape last callers (line ∷ lines) = line_event shape last callers line >>= λ e. Ok (Some (e, lines))

abbrev pub shape_then : List TextLine → Result Counts HistoryRefusal → Result (Counts × List TextLine) HistoryRefusal
shape_then lines (Ok s) = Ok (s, lines)
shape_then lines (Err e) = Err e

-- the shape that the first line is, and the lines behind it
abbrev pub first_shape : List TextLine → Result (Counts × List TextLine) HistoryRefusal
first_shape [] = Err refusal.BadShape
first_shape (line ∷ lines) = shape_then lines (form_or refusal.BadShape shape_form line.tokens)

-- events before those that were read
abbrev pub prefixed : List Event → Result (List Event) HistoryRefusal → Result (List Event) HistoryRefusal
prefixed before (Ok es) = Ok (before ++ es)
prefixed before (Err e) = Err e

-- values before those that the other tokens are
abbrev pub prefixed_values : List ℕ → Option (List ℕ) → Option (List ℕ)
prefixed_values before None = None
prefixed_values before (Some xs) = Some (before ++ xs)
