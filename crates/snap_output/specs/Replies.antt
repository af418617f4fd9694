-- `command_reply`: the lines that are written for a debugger command, `> ` with the command and then the session's
-- reply.
use Rattle.std.specs.Prelude.{ℕ, List, ◌++◌, codes}
use Rattle.snap_semantics.specs.Layout.{line_text}
use Rattle.snap_debug_commands.specs.CommandForms.{spelled_command}
use Rattle.snap_debug.specs.Session.{Session, answer}
use Rattle.snap_debug_commands.specs.declared.command.Command.{Command}

-- a command behind `> `, and what a session answers to it
abbrev pub command_reply : Session → Command → List ℕ
command_reply s c = codes "> " ++ line_text (spelled_command c) ++ (answer s c).1
