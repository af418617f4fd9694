-- The grammar of debugger commands: one command a line.
use Rattle.std.specs.Prelude.{ℕ, ◌+◌, List, [], ◌∷◌, length, Result, Ok, Err, nat_lt, nat_le, if◌then◌else◌}
use Rattle.snap_semantics.specs.Answers.{◌>>=◌}
use Rattle.snap_semantics.specs.Rules.{form_or}
use Rattle.snap_semantics.specs.Token.{TextLine, text_lines}
use Rattle.snap_debug_commands.specs.CommandForms.{command_form}
use Rattle.snap_debug_commands.specs.declared.command.Command.{Command}
use Rattle.snap_semantics.specs.declared.refusal.CommandRefusal.{CommandRefusal}
use Rattle.snap_semantics.specs.declared.refusal.CommandRefusal.TheVariants as refusal

-- what a line asks for; a byte that begins no token fits no form
abbrev pub command_at : TextLine → Result Command CommandRefusal
command_at line = form_or (refusal.BadCommand line.number) command_form line.tokens

-- the most bytes of a text of commands
abbrev pub max_text : ℕ
max_text = 1048576

-- the most commands of a text
abbrev pub max_commands : ℕ
max_commands = 10000

-- the commands of the lines, with so many before them; the 10,001st is one too many, whatever it is
abbrev pub commands_of_lines : ℕ → List TextLine → Result (List Command) CommandRefusal
commands_of_lines count [] = Ok []
commands_of_lines count (line ∷ lines) =
    if nat_le max_commands count then Err refusal.TooLong else
    command_at line >>= λ c. commands_of_lines (count + 1) lines >>= λ cs. Ok (c ∷ cs)

-- the commands that a text is, or the first reason why it is none
abbrev pub commands_of : List ℕ → Result (List Command) CommandRefusal
commands_of text = if nat_lt max_text (length text) then Err refusal.TooLong else commands_of_lines 0 (text_lines text)
