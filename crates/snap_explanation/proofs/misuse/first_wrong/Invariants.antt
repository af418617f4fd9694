-- `first_wrong` of snap_explanation (src/misuse.rt): what holds at the head of each of its loops.
use Rattle.std.proofs.Common.{◌≡◌, map, length}
use Rattle.snap_explanation.specs.Steps.{view_placed_token}
use Rattle.snap_explanation.specs.Misuse.{first_wrong}
use Rattle.snap_explanation.specs.Views.{view_names}
use Rattle.snap_explanation.specs.declared.token_uses.Slot.TheVariants.{Value}
use Rattle.snap_explanation.proofs.misuse.first_wrong.Given as goal

abbrev pub invariant-loop-rest : goal.invariant-loop-rest
invariant-loop-rest l =
    first_wrong (view_names l.names) l.instr l.slot (map view_placed_token l.rest)
    ≡ first_wrong (view_names l.names) l.instr Value (map view_placed_token l.tokens)

abbrev pub decreases-loop-rest : goal.decreases-loop-rest
decreases-loop-rest l = length l.rest
