-- `push_shapes` of snap_picture (src/print.rt): what holds at the head of each of its loops.
use Rattle.std.proofs.Common.{◌≡◌, ◌++◌, drop}
use Rattle.std.specs.Prelude.{false}
use Rattle.snap_picture.specs.ShapeText.{shapes_text}
use Rattle.snap_picture.proofs.print.push_shapes.Given as goal

abbrev pub invariant-loop-shape : goal.invariant-loop-shape
invariant-loop-shape l =
    l.out.failed ≡ false →
    (l.fn.out.failed ≡ false)
    × (l.out.text ++ shapes_text l.window (drop l.shape-index l.shapes)
    ≡ l.fn.out.text ++ shapes_text l.window l.shapes)
