-- `marks_text` of snap_page (src/marking.rt): what holds at the head of each of its loops.
use Rattle.std.proofs.Common.{◌≡◌, ◌++◌, length, false}
use Rattle.snap_page.specs.Marks.{marks_text}
use Rattle.snap_page.proofs.marking.marks_text.Given as goal

-- what has been added, and what is left to add
abbrev pub invariant-loop-command : goal.invariant-loop-command
invariant-loop-command l =
    l.out.failed ≡ false → l.out.text ++ marks_text l.rest ≡ marks_text l.commands

abbrev pub decreases-loop-command : goal.decreases-loop-command
decreases-loop-command l = length l.rest
