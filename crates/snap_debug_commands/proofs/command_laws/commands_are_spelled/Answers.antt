-- `commands_are_spelled` of snap_debug_commands (src/command_laws.rt): the proof of what its contract says.
use Rattle.snap_debug_commands.proofs.CommandsAgain.{spelled_is_read}
use Rattle.snap_debug_commands.proofs.CommandsFound.{read_is_spelled}
use Rattle.snap_debug_commands.proofs.command_laws.commands_are_spelled.Goals as goal

pub returns : goal.returns
returns c text cs = (read_is_spelled text cs, spelled_is_read text cs)
