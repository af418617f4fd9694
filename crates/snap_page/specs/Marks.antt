-- The marks that the commands of an input leave (`marks_asked`), a line each: the command that sets it.
use Rattle.std.specs.Prelude.{ℕ, Bool, false, not, List, [], ◌∷◌, ◌++◌, Option, Some, None, Result, Ok}
use Rattle.std.specs.Prelude.{if◌then◌else◌}
use Rattle.std.specs.List.{list_any}
use Rattle.snap_semantics.specs.Answers.{◌>>=◌, refused_as}
use Rattle.snap_semantics.specs.Layout.{line_text}
use Rattle.snap_semantics.specs.declared.refusal.Refusal.{Refusal}
use Rattle.snap_semantics.specs.declared.refusal.Refusal.TheVariants as refusal
use Rattle.snap_debug_commands.specs.CommandForms.{spelled_command}
use Rattle.snap_debug_commands.specs.Commands.{commands_of}
use Rattle.snap_debug_commands.specs.declared.command.Command.{Command}
use Rattle.snap_debug_commands.specs.declared.command.Command.TheVariants as command
use Rattle.snap_debug.specs.Marks.{same_address, same_breakpoint}
use Rattle.snap_page.specs.declared.marking.AnyMark.{AnyMark}
use Rattle.snap_page.specs.declared.marking.AnyMark.TheVariants as mark

-- whether two marks are the same
abbrev pub is_same_mark : AnyMark → AnyMark → Bool
is_same_mark (mark.Line a) (mark.Line b) = same_breakpoint a b
is_same_mark (mark.Register a) (mark.Register b) = same_address a b
is_same_mark _ _ = false

-- the mark that a command sets
abbrev pub set_by : Command → Option AnyMark
set_by (command.Break b) = Some (mark.Line b)
set_by (command.Watch a) = Some (mark.Register a)
set_by _ = None

-- the mark that a command sets or takes away
abbrev pub meant_by : Command → Option AnyMark
meant_by (command.Clear b) = Some (mark.Line b)
meant_by (command.Unwatch a) = Some (mark.Register a)
meant_by c = set_by c

-- whether a mark is this one, where there is one
abbrev pub is_same : AnyMark → Option AnyMark → Bool
is_same m None = false
is_same m (Some other) = is_same_mark m other

-- whether a command sets or takes away this mark
abbrev pub means : AnyMark → Command → Bool
means m c = is_same m (meant_by c)

-- whether a mark that is set, if one is, is meant by none of the commands behind
abbrev pub stays : Option AnyMark → (later : List Command) → Bool
stays None later = false
stays (Some m) later = not (list_any (means m) later)

-- the line of a command whose mark stays
abbrev pub mark_line : Command → (later : List Command) → List ℕ
mark_line c later = if stays (set_by c) later then line_text (spelled_command c) else []

-- the commands that set a mark which no later one sets or takes away
abbrev pub marks_text : List Command → List ℕ
marks_text [] = []
marks_text (c ∷ cs) = mark_line c cs ++ marks_text cs

-- the marks that a text of commands leaves, or why it is none
abbrev pub marks_asked : List ℕ → Result (List ℕ) Refusal
marks_asked text = refused_as refusal.Commands (commands_of text) >>= λ cs. Ok (marks_text cs)
