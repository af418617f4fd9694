-- `history_explanation`: what is said of an input that is no history after the line that refuses it: the line, and
-- what may stand there.
use Rattle.std.specs.Prelude.{ℕ, List, [], ◌++◌, Option, Some, None}
use Rattle.snap_semantics.specs.Token.{text_lines}
use Rattle.snap_history_text.specs.declared.refusal.HistoryRefusal.{HistoryRefusal}
use Rattle.snap_history_text.specs.declared.refusal.HistoryRefusal.TheVariants as history
use Rattle.snap_explanation.specs.declared.line_sorts.LineSort.TheVariants.{Script, Shape}
use Rattle.snap_explanation.specs.declared.part.PartName.TheVariants as name
use Rattle.snap_explanation.specs.declared.wording.TheConstants.{LONG_HISTORY, EVENT_FORMS, NO_PROCESS, NOT_RISING}
use Rattle.snap_explanation.specs.declared.wording.TheConstants.{NO_WORD, BUSY, CRASHED, NOT_CALLED, BAD_VIEW}
use Rattle.snap_explanation.specs.Explanation.{first_number, form_text, stray_text}
use Rattle.snap_explanation.specs.Part.{Part}
use Rattle.snap_explanation.specs.Pieces.{placed_of}
use Rattle.snap_explanation.specs.Spot.{line_spot, text_of}

-- the history that an input is
abbrev pub history_part : List ℕ → Part
history_part input = record { name = name.History; before = 0; text = input }

-- the line that is refused; 0 where none is
abbrev pub refused_line : HistoryRefusal → ℕ
refused_line history.TooLong = 0
refused_line history.BadShape = 0
refused_line (history.BadEvent k) = k
refused_line (history.NoSuchProcess k) = k
refused_line (history.NotRising k) = k
refused_line (history.NoSuchWord k) = k
refused_line (history.Busy k) = k
refused_line (history.Crashed k) = k
refused_line (history.NotCalled k) = k
refused_line (history.BadView k) = k

-- the rule of histories that is broken
abbrev pub history_rule : HistoryRefusal → List ℕ
history_rule history.TooLong = LONG_HISTORY.now
history_rule history.BadShape = []
history_rule (history.BadEvent k) = []
history_rule (history.NoSuchProcess k) = NO_PROCESS.now
history_rule (history.NotRising k) = NOT_RISING.now
history_rule (history.NoSuchWord k) = NO_WORD.now
history_rule (history.Busy k) = BUSY.now
history_rule (history.Crashed k) = CRASHED.now
history_rule (history.NotCalled k) = NOT_CALLED.now
history_rule (history.BadView k) = BAD_VIEW.now

-- a line that is no event: what is said of the byte that begins no token, if one does, or of the forms of events
abbrev pub no_event : Part → (line : ℕ) → (stray : Option ℕ) → List ℕ
no_event p k (Some column) = stray_text p Script k column
no_event p k None = line_spot p k ++ EVENT_FORMS.now

-- what is said behind the line of a refusal: the line, and the rule that it breaks
unfoldable pub history_explanation : List ℕ → HistoryRefusal → List ℕ
history_explanation input history.TooLong = LONG_HISTORY.now
history_explanation input history.BadShape = form_text (history_part input) Shape (first_number (text_lines input))
history_explanation input (history.BadEvent k) =
    no_event (history_part input) k (placed_of (text_of (history_part input) k)).stray
history_explanation input r = line_spot (history_part input) (refused_line r) ++ history_rule r
