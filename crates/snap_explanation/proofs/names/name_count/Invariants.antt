-- `name_count` of snap_explanation (src/names.rt): what holds at the head of each of its loops.
use Rattle.std.proofs.Common.{◌≡◌, ◌≤◌, ◌+◌, map, length}
use Rattle.snap_explanation.specs.Names.{name_count}
use Rattle.snap_explanation.proofs.names.name_count.Given as goal

abbrev pub invariant-loop-rest : goal.invariant-loop-rest
invariant-loop-rest l =
    (l.count + name_count (map (λ w. w.now) l.rest) ≡ name_count (map (λ w. w.now) l.words))
    × (l.count + length l.rest ≤ length l.words)

abbrev pub decreases-loop-rest : goal.decreases-loop-rest
decreases-loop-rest l = length l.rest
