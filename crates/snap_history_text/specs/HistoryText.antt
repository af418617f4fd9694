-- The grammar of histories: a shape, and then events, one a line; why a text is refused, the first reason first; and
-- the canonical text of a history.
use Rattle.std.specs.Prelude.{ℕ, ◌+◌, ◌-◌, ◌^◌, Bool, true, not, List, [], ◌∷◌, ◌++◌, length, map, replicate}
use Rattle.std.specs.Prelude.{Option, Some, None, Result, Ok, Err, nat_eq, nat_lt, if◌then◌else◌}
use Rattle.std.specs.Prelude.{slice_index_or, slice_set}
use Rattle.snap_words.specs.Shape.{Counts, is_place}
use Rattle.snap_semantics.specs.declared.event.Event.{Event}
use Rattle.snap_semantics.specs.declared.event.Happening.{Happening}
use Rattle.snap_semantics.specs.declared.event.Happening.TheVariants as what
use Rattle.snap_semantics.specs.declared.process.Op.TheVariants as op
use Rattle.snap_semantics.specs.Answers.{◌>>=◌}
use Rattle.snap_semantics.specs.Layout.{line_text, lines_text}
use Rattle.snap_semantics.specs.Rules.{form_or, found_or}
use Rattle.snap_semantics.specs.ScheduleForms.{shape_form, spelled_shape}
use Rattle.snap_semantics.specs.Token.{TextLine, text_lines}
use Rattle.snap_judge.specs.History.{Caller, Free, Busy, Gone, History, caller_after}
use Rattle.snap_history_text.specs.HistoryForms.{event_form, spelled_event}
use Rattle.snap_history_text.specs.declared.event_form.EventForm.{EventForm}
use Rattle.snap_history_text.specs.declared.refusal.HistoryRefusal.{HistoryRefusal}
use Rattle.snap_history_text.specs.declared.refusal.HistoryRefusal.TheVariants as refusal

-- the most bytes of the text of a history
abbrev pub max_bytes : ℕ
max_bytes = 16777216

-- The number of an event behind one with the number `last`: the one that its line tells, which is greater, or else the
-- next one, which has 64 bits; none where it is not so.
abbrev pub number_behind : ℕ → Option ℕ → Option ℕ
number_behind last None = if nat_lt (last + 1) (2 ^ 64) then Some (last + 1) else None
number_behind last (Some t) = if nat_lt last t then Some t else None

-- whether the updated word exists; every other event passes
abbrev pub has_word : Counts → Happening → Bool
has_word shape (what.Call op.Scan) = true
has_word shape (what.Call (op.Update word value)) = is_place shape.w word
has_word shape (what.Answer view) = true
has_word shape what.Done = true
has_word shape what.Crash = true

-- what process i is at, the processes being at these
abbrev pub caller_at : List Caller → ℕ → Caller
caller_at callers i = slice_index_or callers (i - 1) Free

-- what they are at behind an event
abbrev pub callers_behind : List Caller → Event → List Caller
callers_behind callers e = slice_set callers (e.process - 1) (caller_after e.what)

-- Why a process that is at this may not come to that in a line, where it may not.
abbrev pub wrong_turn : Counts → ℕ → Caller → Happening → Option HistoryRefusal
wrong_turn shape line Free (what.Call o) = None
wrong_turn shape line Free (what.Answer view) = Some (refusal.NotCalled line)
wrong_turn shape line Free what.Done = Some (refusal.NotCalled line)
wrong_turn shape line Free what.Crash = None
wrong_turn shape line (Busy o) (what.Call p) = Some (refusal.Busy line)
wrong_turn shape line (Busy op.Scan) (what.Answer view) =
    if nat_eq (length view) shape.w then None else Some (refusal.BadView line)
wrong_turn shape line (Busy (op.Update word value)) (what.Answer view) = Some (refusal.NotCalled line)
wrong_turn shape line (Busy op.Scan) what.Done = Some (refusal.NotCalled line)
wrong_turn shape line (Busy (op.Update word value)) what.Done = None
wrong_turn shape line (Busy o) what.Crash = None
wrong_turn shape line Gone happening = Some (refusal.Crashed line)

-- a value, unless there is a reason against it
abbrev pub unless : {A E : Type 0} → Option E → A → Result A E
unless None x = Ok x
unless (Some e) x = Err e

-- the event that the form of a line is, behind one with the number `last`, the processes being at these
abbrev pub event_of : Counts → ℕ → List Caller → ℕ → EventForm → Result Event HistoryRefusal
event_of shape last callers line form =
    if not (is_place shape.n form.process) then Err (refusal.NoSuchProcess line) else
    found_or (refusal.NotRising line) (number_behind last form.number) >>= λ t.
    if not (has_word shape form.what) then Err (refusal.NoSuchWord line) else
    unless (wrong_turn shape line (caller_at callers form.process) form.what)
    (record { item = t; process = form.process; what = form.what })

-- the event that a line is
abbrev pub line_event : Counts → ℕ → List Caller → TextLine → Result Event HistoryRefusal
line_event shape last callers line =
    form_or (refusal.BadEvent line.number) event_form line.tokens >>= λ form.
    event_of shape last callers line.number form

-- the events that the lines are, one after another
abbrev pub events_of : Counts → ℕ → List Caller → List TextLine → Result (List Event) HistoryRefusal
events_of shape last callers [] = Ok []
events_of shape last callers (line ∷ lines) =
    line_event shape last callers line >>= λ e. events_of shape e.item (callers_behind callers e) lines >>= λ es.
    Ok (e ∷ es)

-- the history that the lines are, or why not; before the first event no process is at anything
abbrev pub history_of_lines : List TextLine → Result History HistoryRefusal
history_of_lines [] = Err refusal.BadShape
history_of_lines (line ∷ lines) =
    form_or refusal.BadShape shape_form line.tokens >>= λ shape.
    events_of shape 0 (replicate shape.n Free) lines >>= λ events. Ok (record { shape = shape; events = events })

-- the history that a text is, or the first reason why it is none
abbrev pub history_of : List ℕ → Result History HistoryRefusal
history_of text = if nat_lt max_bytes (length text) then Err refusal.TooLong else history_of_lines (text_lines text)

-- the canonical text of a history: its shape, and then each event on a line, with its number
abbrev pub history_text : History → List ℕ
history_text h = line_text (spelled_shape h.shape) ++ lines_text (map spelled_event h.events)
