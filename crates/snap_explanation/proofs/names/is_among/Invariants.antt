-- `is_among` of snap_explanation (src/names.rt): what holds at the head of each of its loops.
use Rattle.std.proofs.Common.{◌≡◌, map, length}
use Rattle.snap_explanation.specs.Names.{is_among}
use Rattle.snap_explanation.proofs.names.is_among.Given as goal

abbrev pub invariant-loop-rest : goal.invariant-loop-rest
invariant-loop-rest l = is_among l.word (map (λ w. w.now) l.rest) ≡ is_among l.word (map (λ w. w.now) l.words)

abbrev pub decreases-loop-rest : goal.decreases-loop-rest
decreases-loop-rest l = length l.rest
