-- `count_separators` of snap_input (src/parts.rt): what holds at the head of each of its loops.
use Rattle.std.proofs.Common.{length, ◌≡◌, ◌≤◌, ◌+◌}
use Rattle.snap_input.specs.Parts.{parts_of}
use Rattle.snap_input.proofs.parts.count_separators.Given as goal

-- the separators so far, and the parts of the rest
abbrev pub invariant-loop-rest : goal.invariant-loop-rest
invariant-loop-rest l =
    (l.count + length (parts_of l.rest) ≡ length (parts_of l.input)) × (l.count + length l.rest ≤ length l.input)

abbrev pub decreases-loop-rest : goal.decreases-loop-rest
decreases-loop-rest l = length l.rest
