-- `push_verdicts` of snap_picture (src/verdicts.rt): what holds at the head of each of its loops.
use Rattle.std.proofs.Common.{◌≡◌, ◌++◌, drop}
use Rattle.snap_picture.specs.Shapes.{verdict_shapes}
use Rattle.snap_picture.proofs.verdicts.push_verdicts.Given as goal

abbrev pub invariant-loop-verdict : goal.invariant-loop-verdict
invariant-loop-verdict g l =
    l.shapes.items ++ verdict_shapes l.history (drop l.verdict-index l.verdicts)
    ≡ l.fn.shapes.items ++ verdict_shapes l.history l.verdicts
