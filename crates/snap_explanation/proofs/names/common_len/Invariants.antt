-- `common_len` of snap_explanation (src/names.rt): what holds at the head of each of its loops.
use Rattle.std.proofs.Common.{◌≡◌, ◌+◌, length}
use Rattle.snap_explanation.specs.Names.{common_len}
use Rattle.snap_explanation.proofs.names.common_len.Given as goal

abbrev pub invariant-loop-left : goal.invariant-loop-left
invariant-loop-left l =
    (l.len + common_len l.left l.right ≡ common_len l.one l.other)
    × ((l.len + length l.left ≡ length l.one) × (l.len + length l.right ≡ length l.other))

abbrev pub decreases-loop-left : goal.decreases-loop-left
decreases-loop-left l = length l.left
