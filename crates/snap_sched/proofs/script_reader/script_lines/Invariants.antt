-- `script_lines` of snap_sched (src/script_reader.rt): what holds at the head of each of its loops.
use Rattle.std.proofs.Common.{◌≡◌, [], length}
use Rattle.snap_sched.specs.ScriptText.{script_lines}
use Rattle.snap_sched.proofs.script_reader.script_lines.Given as goal

-- the forms so far, and those of the lines that are left
abbrev pub invariant-loop-forms : goal.invariant-loop-forms
invariant-loop-forms l = script_lines l.fn.n l.forms.items l.lines ≡ script_lines l.fn.n [] l.fn.lines

abbrev pub decreases-loop-forms : goal.decreases-loop-forms
decreases-loop-forms l = length l.lines
