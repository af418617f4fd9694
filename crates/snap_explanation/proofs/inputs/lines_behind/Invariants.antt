-- `lines_behind` of snap_explanation (src/inputs.rt): what holds at the head of each of its loops.
use Rattle.std.proofs.Common.{◌≡◌, ◌++◌, map, drop}
use Rattle.snap_explanation.specs.Inputs.{lines_behind}
use Rattle.snap_explanation.proofs.inputs.lines_behind.Given as goal

abbrev pub invariant-loop-part : goal.invariant-loop-part
invariant-loop-part l =
    l.lines.items ++ lines_behind l.before (map (λ p. p.now) (drop l.part-index l.parts))
    ≡ lines_behind 0 (map (λ p. p.now) l.parts)
