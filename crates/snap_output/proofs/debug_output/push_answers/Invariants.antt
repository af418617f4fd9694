-- `push_answers` of snap_output (src/debug_output.rt): what holds at the head of each of its loops.
use Rattle.std.proofs.Common.{◌≡◌, ◌++◌, drop, false}
use Rattle.snap_debug.specs.Session.{after_commands, replies_text}
use Rattle.snap_output.proofs.debug_output.push_answers.Given as goal

-- the replies so far and those to the commands that are left, which lead where all of them lead
abbrev pub invariant-loop-command : goal.invariant-loop-command
invariant-loop-command g l =
    (l.out.failed ≡ false →
    (l.fn.out.failed ≡ false)
    × (l.out.text ++ replies_text l.session (drop l.command-index l.commands)
    ≡ l.fn.out.text ++ replies_text l.fn.session l.commands))
    × (after_commands l.session (drop l.command-index l.commands) ≡ after_commands l.fn.session l.commands)
