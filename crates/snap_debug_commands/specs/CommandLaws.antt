-- The laws of reading and writing debugger commands: each command is spelled in one way.
use Rattle.std.specs.Prelude.{◌≡◌, ◌↔◌, ◌≤◌, ◌<◌, ◌^◌, ⊤, ℕ, List, length, map, Ok}
use Rattle.std.specs.List.{AllByRecursion}
use Rattle.snap_words.specs.declared.address.Address.{Address}
use Rattle.snap_words.specs.declared.address.Bank.{Bank}
use Rattle.snap_words.specs.declared.address.Bank.TheVariants.{R, Q, P, V}
use Rattle.snap_semantics.specs.Layout.{lines_text}
use Rattle.snap_semantics.specs.Token.{text_lines}
use Rattle.snap_text.specs.Lines.{line_tokens, found_lines}
use Rattle.snap_debug_commands.specs.CommandForms.{spelled_command}
use Rattle.snap_debug_commands.specs.Commands.{commands_of, max_commands, max_text}
use Rattle.snap_debug_commands.specs.declared.command.Breakpoint.{Breakpoint}
use Rattle.snap_debug_commands.specs.declared.command.Command.{Command}
use Rattle.snap_debug_commands.specs.declared.command.Command.TheVariants as command

-- the second index of a register: a number of 64 bits, and 0 where the bank takes one index
abbrev pub FitsSecond : Bank → ℕ → Type 0
FitsSecond R j = j ≡ 0
FitsSecond Q j = j < 2 ^ 64
FitsSecond P j = j < 2 ^ 64
FitsSecond V j = j ≡ 0

abbrev pub FitsAddress : Address → Type 0
FitsAddress a = (a.i < 2 ^ 64) × FitsSecond a.bank a.j

abbrev pub FitsBreakpoint : Breakpoint → Type 0
FitsBreakpoint b = (b.process < 2 ^ 64) × (b.line < 2 ^ 64)

-- a command that can stand in a text
abbrev pub FitsCommand : Command → Type 0
FitsCommand (command.Step k) = k < 2 ^ 64
FitsCommand (command.Back k) = k < 2 ^ 64
FitsCommand (command.Goto t) = t < 2 ^ 64
FitsCommand command.Run = ⊤
FitsCommand command.ReverseRun = ⊤
FitsCommand (command.Break b) = FitsBreakpoint b
FitsCommand (command.Clear b) = FitsBreakpoint b
FitsCommand (command.Watch a) = FitsAddress a
FitsCommand (command.Unwatch a) = FitsAddress a
FitsCommand (command.ShowRegister a) = FitsAddress a
FitsCommand (command.ShowProcess i) = i < 2 ^ 64
FitsCommand command.Values = ⊤
FitsCommand command.Events = ⊤
FitsCommand command.Where = ⊤

-- commands that can stand in a text, few enough for one
abbrev pub AreCommands : List Command → Type 0
AreCommands cs = (length cs ≤ max_commands) × AllByRecursion FitsCommand cs

-- a text that spells these commands, one a line, and is not too long
abbrev pub Spells : List ℕ → List Command → Type 0
Spells text cs =
    (length text ≤ max_text) × AreCommands cs × (line_tokens (text_lines text) ≡ found_lines (map spelled_command cs))

-- a text is read as commands just where it spells them
abbrev pub ReadsSpelled : Type 0
ReadsSpelled = (text : List ℕ) (cs : List Command) → commands_of text ≡ Ok cs ↔ Spells text cs

-- the text of commands
abbrev pub commands_text : List Command → List ℕ
commands_text cs = lines_text (map spelled_command cs)

-- what is written of commands is read as those commands
abbrev pub ReadsWritten : Type 0
ReadsWritten =
    (cs : List Command) → AreCommands cs → length (commands_text cs) ≤ max_text → commands_of (commands_text cs) ≡ Ok cs
