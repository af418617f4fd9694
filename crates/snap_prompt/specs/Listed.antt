-- `list_text`: what the prompt answers to `list`, the lines of the listing around the one at which a process
-- is, or all of them.
use Rattle.std.specs.Prelude.{ℕ, ◌-◌, Bool, true, ◌&&◌, List, [], ◌∷◌, ◌++◌, Option, Some, None, codes, map}
use Rattle.std.specs.Prelude.{nat_eq, nat_le, if◌then◌else◌}
use Rattle.snap_semantics.specs.Readers.{line_of}
use Rattle.snap_semantics.specs.Report.{head_line}
use Rattle.snap_semantics.specs.State.{process_at}
use Rattle.snap_semantics.specs.declared.instr.Line.{Line}
use Rattle.snap_semantics.specs.declared.process.Outcome.{Outcome}
use Rattle.snap_semantics.specs.declared.refusal.CommandRefusal.TheVariants as refusal
use Rattle.snap_listing.specs.LineTexts.{NumberedText, text_with, written}
use Rattle.snap_debug.specs.Session.{Session, has_process, state_of}
use Rattle.snap_prompt.specs.Hints.{refused_line}

-- Whether a number is at most eight from the line at which a process stands. Where it stands at none, each is near.
abbrev pub is_near : Option ℕ → ℕ → Bool
is_near None number = true
is_near (Some line) number = nat_le (line - 8) number && nat_le (number - 8) line

abbrev pub text_or_none : Option (List ℕ) → List ℕ
text_or_none None = []
text_or_none (Some text) = text

abbrev pub pointer_text : Option ℕ → ℕ → List ℕ
pointer_text None number = codes "  "
pointer_text (Some line) number = if nat_eq line number then codes "> " else codes "  "

-- a line, marked where a process stands at it
abbrev pub marked_line : List NumberedText → Option ℕ → ℕ → List ℕ
marked_line texts line number = pointer_text line number ++ text_or_none (text_with texts number) ++ codes "\n"

-- a line where it is near
abbrev pub near_line : List NumberedText → Option ℕ → ℕ → List ℕ
near_line texts line number = if is_near line number then marked_line texts line number else []

-- the lines that are near
abbrev pub near_lines : List NumberedText → Option ℕ → List Line → List ℕ
near_lines texts line [] = []
near_lines texts line (l ∷ ls) = near_line texts line l.number ++ near_lines texts line ls

-- where a process stands, and the lines around; all lines where it stands at none, as an idle one
unfoldable pub stand_text : Session → ℕ → List ℕ
stand_text s i =
    head_line i (process_at (state_of s) i).status
    ++ near_lines (map written s.run.source.lines) (line_of (process_at (state_of s) i).status) s.run.source.lines

-- `list I`
unfoldable pub list_text : Session → ℕ → List ℕ
list_text s i = if has_process s i then stand_text s i else refused_line s refusal.NoSuchProcess

-- the process of the last item, and 1 where there is none
abbrev pub process_of : Option (ℕ × Outcome) → ℕ
process_of None = 1
process_of (Some o) = o.0
