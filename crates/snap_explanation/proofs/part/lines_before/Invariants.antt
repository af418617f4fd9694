-- `lines_before` of snap_explanation (src/part.rt): what holds at the head of each of its loops.
use Rattle.std.proofs.Common.{◌≡◌, map, drop}
use Rattle.snap_explanation.specs.Part.{lines_before}
use Rattle.snap_explanation.proofs.part.lines_before.Given as goal

abbrev pub invariant-loop-part : goal.invariant-loop-part
invariant-loop-part l =
    lines_before l.left l.before (map (λ p. p.now) (drop l.part-index l.parts))
    ≡ lines_before l.index 0 (map (λ p. p.now) l.parts)
