-- `placed_tokens` of snap_explanation (src/pieces.rt): what holds at the head of each of its loops.
use Rattle.std.proofs.Common.{◌≡◌, ◌+◌, length, map}
use Rattle.snap_explanation.specs.Pieces.{placed_from, placed_of, pieces_of}
use Rattle.snap_explanation.specs.Steps.{view_placed_token}
use Rattle.snap_explanation.proofs.Fronts.{before_placed}
use Rattle.snap_explanation.proofs.pieces.placed_tokens.Given as goal

-- the tokens so far, and those of the pieces that are left
abbrev pub invariant-loop-rest : goal.invariant-loop-rest
invariant-loop-rest l =
    (l.column + length l.rest ≡ 1 + length l.line)
    × (before_placed (map view_placed_token l.out.items) (placed_from l.column (pieces_of l.rest)) ≡ placed_of l.line)

abbrev pub decreases-loop-rest : goal.decreases-loop-rest
decreases-loop-rest l = length l.rest
