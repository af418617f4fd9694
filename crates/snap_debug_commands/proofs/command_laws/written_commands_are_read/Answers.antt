-- `written_commands_are_read` of snap_debug_commands (src/command_laws.rt): the proof of what its contract says.
use Rattle.snap_debug_commands.proofs.CommandsAgain.{written_is_read}
use Rattle.snap_debug_commands.proofs.command_laws.written_commands_are_read.Goals as goal

pub returns : goal.returns
returns c = written_is_read
