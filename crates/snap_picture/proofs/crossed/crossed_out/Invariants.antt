-- `crossed_out` of snap_picture (src/crossed.rt): what holds at the head of each of its loops.
use Rattle.std.proofs.Common.{◌≡◌, ◌++◌, drop}
use Rattle.snap_picture.specs.Crossed.{crossed_out}
use Rattle.snap_picture.proofs.crossed.crossed_out.Given as goal

-- what was crossed out, and what is to be among the shapes that are left
abbrev pub invariant-loop-shape : goal.invariant-loop-shape
invariant-loop-shape l =
    l.crossed.items ++ crossed_out l.event.process l.event.item (drop l.shape-index l.shapes)
    ≡ crossed_out l.event.process l.event.item l.shapes
