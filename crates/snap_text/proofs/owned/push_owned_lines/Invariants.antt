-- `push_owned_lines` of snap_text (src/owned.rt): what holds at the head of each of its loops.
use Rattle.std.proofs.Common.{◌≡◌, ◌++◌, [], false, length}
use Rattle.snap_semantics.specs.Token.{lines_of}
use Rattle.snap_text.specs.Owned.{owned_text}
use Rattle.snap_text.proofs.owned.push_owned_lines.Given as goal

-- the text so far, and that of the lines that are left
abbrev pub invariant-loop-rest : goal.invariant-loop-rest
invariant-loop-rest l =
    l.out.failed ≡ false →
    (l.fn.out.failed ≡ false)
    × (l.out.text ++ owned_text l.owner (lines_of l.rest) ≡ l.fn.out.text ++ owned_text [] (lines_of l.text))

abbrev pub decreases-loop-rest : goal.decreases-loop-rest
decreases-loop-rest l = length l.rest
