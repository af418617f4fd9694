-- `read_commands` of snap_debug_commands (src/commands.rt): what holds at the head of each of its loops.
use Rattle.std.proofs.Common.{◌≡◌, List, ◌++◌, length, Result, Ok}
use Rattle.snap_semantics.specs.Answers.{◌>>=◌}
use Rattle.snap_debug_commands.specs.Commands.{commands_of_lines}
use Rattle.snap_semantics.specs.Token.{text_lines}
use Rattle.snap_semantics.specs.declared.refusal.CommandRefusal.{CommandRefusal}
use Rattle.snap_debug_commands.specs.declared.command.Command.{Command}
use Rattle.snap_debug_commands.proofs.commands.read_commands.Given as goal

-- commands before those that are to come
abbrev pub with_front : List Command → Result (List Command) CommandRefusal → Result (List Command) CommandRefusal
with_front front later = later >>= λ commands. Ok (front ++ commands)

-- the commands so far, and those of the lines that are left
abbrev pub invariant-loop-commands : goal.invariant-loop-commands
invariant-loop-commands l =
    with_front l.commands.items (commands_of_lines (length l.commands.items) l.lines)
    ≡ commands_of_lines 0 (text_lines l.text)

abbrev pub decreases-loop-commands : goal.decreases-loop-commands
decreases-loop-commands l = length l.lines
