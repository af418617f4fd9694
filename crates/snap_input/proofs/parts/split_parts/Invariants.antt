-- `split_parts` of snap_input (src/parts.rt): what holds at the head of each of its loops.
use Rattle.std.proofs.Common.{length, ◌≡◌, ◌≤◌, map, take, drop, ◌++◌}
use Rattle.snap_input.specs.Parts.{onto_part, parts_of}
use Rattle.snap_input.proofs.parts.split_parts.Given as goal

-- the parts so far, and those of the rest behind what the part in hand has
abbrev pub invariant-loop-rest : goal.invariant-loop-rest
invariant-loop-rest l = (l.rest ≡ drop l.len l.part) × (l.len ≤ length l.part)
    × (map (λ part. part.now) l.parts.items ++ onto_part (take l.len l.part) (parts_of l.rest) ≡ parts_of l.input)

abbrev pub decreases-loop-rest : goal.decreases-loop-rest
decreases-loop-rest l = length l.rest
