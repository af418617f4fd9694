-- `nth_token` of snap_explanation (src/names.rt): what holds at the head of each of its loops.
use Rattle.std.proofs.Common.{◌≡◌, map, length}
use Rattle.snap_explanation.specs.Names.{nth_token}
use Rattle.snap_explanation.specs.Steps.{view_placed_token}
use Rattle.snap_explanation.proofs.names.nth_token.Given as goal

abbrev pub invariant-loop-rest : goal.invariant-loop-rest
invariant-loop-rest l =
    nth_token l.left (map view_placed_token l.rest) ≡ nth_token l.index (map view_placed_token l.tokens)

abbrev pub decreases-loop-rest : goal.decreases-loop-rest
decreases-loop-rest l = length l.rest
