-- `first_bad` of snap_explanation (src/names.rt): what holds at the head of each of its loops.
use Rattle.std.proofs.Common.{◌≡◌, map, length}
use Rattle.snap_explanation.specs.Names.{first_such, is_bad}
use Rattle.snap_explanation.specs.Steps.{view_placed_token}
use Rattle.snap_explanation.proofs.names.first_bad.Given as goal

abbrev pub invariant-loop-rest : goal.invariant-loop-rest
invariant-loop-rest l =
    first_such is_bad (map view_placed_token l.rest) ≡ first_such is_bad (map view_placed_token l.tokens)

abbrev pub decreases-loop-rest : goal.decreases-loop-rest
decreases-loop-rest l = length l.rest
