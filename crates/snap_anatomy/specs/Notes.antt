-- What each item of a run read, wrote, took or set (`notes_of`), beside what the trace says of it.
use Rattle.std.specs.Prelude.{ℕ, zero, suc, List, [], ◌∷◌, ◌++◌, length, Option, Some, None, get_or, take}
use Rattle.snap_words.specs.Shape.{Counts}
use Rattle.snap_words.specs.Word.{Word}
use Rattle.snap_words.specs.declared.address.Bank.TheVariants as bank
use Rattle.snap_words.specs.declared.any_word.AnyWord.{AnyWord}
use Rattle.snap_semantics.specs.Readers.{Contents, WordContents, LocalValue, RowValue, ViewValue, contents, local_value}
use Rattle.snap_semantics.specs.Source.{Name, Source, instr_at}
use Rattle.snap_semantics.specs.State.{Locals, State, process_at}
use Rattle.snap_semantics.specs.Table.{range_end, who}
use Rattle.snap_semantics.specs.declared.instr.Instr.{Instr}
use Rattle.snap_semantics.specs.declared.instr.Instr.TheVariants as instr
use Rattle.snap_runs.specs.Run.{Run, item, state}
use Rattle.snap_acts.specs.Loans.{step_at}
use Rattle.snap_acts.specs.Trace.{trace_of}
use Rattle.snap_acts.specs.declared.act.Act.{Act}
use Rattle.snap_acts.specs.declared.act.Act.TheVariants as act
use Rattle.snap_acts.specs.declared.act.TraceStep.{TraceStep}
use Rattle.snap_anatomy.specs.declared.note.Note.{Note}
use Rattle.snap_anatomy.specs.declared.note.Note.TheVariants as note

-- a word with its fields
abbrev pub any_of : Word → AnyWord
any_of w = record {
  datum = w.datum;
  seq = w.seq;
  id = w.id;
  toggle = w.toggle;
  handshakes = w.handshakes;
  view = w.view;
}

-- the word that a register has
abbrev pub word_note : Option Contents → Note
word_note (Some (WordContents w)) = note.Word (any_of w)
word_note _ = note.Nothing

-- the view that a local has
abbrev pub view_note : Option LocalValue → Note
view_note (Some (ViewValue v)) = note.View v
view_note _ = note.Nothing

-- so many places of the row that a local has
abbrev pub row_note : Name → ℕ → Option LocalValue → Note
row_note x count (Some (RowValue row)) = note.Row x (take count row)
row_note x count _ = note.Nothing

-- the places of a row that a line set, where it sets each place of one, and these are the locals after it
abbrev pub line_note : Counts → Locals → Option Instr → Note
line_note shape l (Some (instr.Each g x e k)) = row_note x (range_end shape g) (local_value l x)
line_note shape l _ = note.Nothing

-- what process i did at a line, where it did this, and this is the state after it: the word that it read or wrote, the
-- view that it took, made, returned or wrote, or the row that it set
abbrev pub note_by : Source → Counts → State → (i line : ℕ) → Act → Note
note_by s shape S i line (act.Read word spot) = word_note (contents S.memory bank.R word 0)
note_by s shape S i line (act.Write word values x) = word_note (contents S.memory bank.R word 0)
note_by s shape S i line (act.Publish k x) = view_note (local_value (process_at S i).locals x)
note_by s shape S i line (act.Look k x) = view_note (local_value (process_at S i).locals x)
note_by s shape S i line (act.Borrow spot x) = view_note (local_value (process_at S i).locals x)
note_by s shape S i line (act.Collect x) = view_note (local_value (process_at S i).locals x)
note_by s shape S i line (act.Leave x) = view_note (local_value (process_at S i).locals x)
note_by s shape S i line act.Other = line_note shape (process_at S i).locals (instr_at s.lines line)
note_by s shape S i line _ = note.Nothing

-- of a step of process i, after which there is this state
unfoldable pub note_of : Source → Counts → State → ℕ → TraceStep → Note
note_of s shape S i step = note_by s shape S i step.line step.act

-- of the first t items of a run, whose trace this is
abbrev pub notes_to : Run → List TraceStep → ℕ → List Note
notes_to r ss zero = []
notes_to r ss (suc t) =
    notes_to r ss t ++ note_of r.source r.shape (state r (suc t)) (who (item r (suc t))) (step_at ss t) ∷ []

-- of the items of a run
abbrev pub notes_of : Run → List Note
notes_of r = notes_to r (trace_of r) (length r.items)

-- the note at a place, counted from 0
abbrev pub note_at : List Note → ℕ → Note
note_at ns k = get_or ns k note.Nothing
