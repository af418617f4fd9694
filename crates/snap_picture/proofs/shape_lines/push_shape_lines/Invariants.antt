-- `push_shape_lines` of snap_picture (src/shape_lines.rt): what holds at the head of each of its loops.
use Rattle.std.proofs.Common.{◌≡◌, ◌++◌, drop}
use Rattle.std.specs.Prelude.{false}
use Rattle.snap_picture.specs.ShapeLines.{shape_lines}
use Rattle.snap_picture.proofs.shape_lines.push_shape_lines.Given as goal

abbrev pub invariant-loop-shape : goal.invariant-loop-shape
invariant-loop-shape l =
    l.out.failed ≡ false →
    (l.fn.out.failed ≡ false)
    × (l.out.text ++ shape_lines l.window (drop l.shape-index l.shapes)
    ≡ l.fn.out.text ++ shape_lines l.window l.shapes)
