-- `admitted_at`: a line of a text read as a debugger command, by the number of commands before it.
use Rattle.std.specs.Prelude.{ℕ, Result, Err, nat_le, if◌then◌else◌}
use Rattle.snap_semantics.specs.Token.{TextLine}
use Rattle.snap_semantics.specs.declared.refusal.CommandRefusal.{CommandRefusal}
use Rattle.snap_semantics.specs.declared.refusal.CommandRefusal.TheVariants as refusal
use Rattle.snap_debug_commands.specs.Commands.{command_at}
use Rattle.snap_debug_commands.specs.declared.command.Command.{Command}

-- what a line asks for, with so many commands before it
abbrev pub admitted_at : ℕ → TextLine → Result Command CommandRefusal
admitted_at count line = if nat_le 10000 count then Err refusal.TooLong else command_at line
