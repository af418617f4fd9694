-- `nearest_of` of snap_explanation (src/sorts.rt): what holds at the head of its loop.
use Rattle.std.proofs.Common.{◌≡◌, None, map, length}
use Rattle.snap_explanation.specs.Names.{nearest}
use Rattle.snap_explanation.specs.Sorts.{names_of}
use Rattle.snap_explanation.proofs.sorts.nearest_of.Given as goal

abbrev pub invariant-loop-rest : goal.invariant-loop-rest
invariant-loop-rest l =
    nearest l.name (names_of l.wanted l.now (map (λ w. w.now) l.rest))
    ≡ nearest l.name (names_of l.wanted None (map (λ w. w.now) l.words))

abbrev pub decreases-loop-rest : goal.decreases-loop-rest
decreases-loop-rest l = length l.rest
