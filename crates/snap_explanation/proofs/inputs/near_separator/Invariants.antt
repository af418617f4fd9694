-- `near_separator` of snap_explanation (src/inputs.rt): what holds at the head of each of its loops.
use Rattle.std.proofs.Common.{◌≡◌, ◌≤◌, ◌+◌, length}
use Rattle.snap_semantics.specs.Token.{lines_of}
use Rattle.snap_explanation.specs.Inputs.{near_separator}
use Rattle.snap_explanation.proofs.inputs.near_separator.Given as goal

abbrev pub invariant-loop-rest : goal.invariant-loop-rest
invariant-loop-rest l =
    (near_separator l.number (lines_of l.rest) ≡ near_separator 1 (lines_of l.input))
    × (l.number + length l.rest ≤ length l.input + 1)

abbrev pub decreases-loop-rest : goal.decreases-loop-rest
decreases-loop-rest l = length l.rest
