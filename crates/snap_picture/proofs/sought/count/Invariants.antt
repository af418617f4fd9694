-- `count` of snap_picture (src/sought.rt): what holds at the head of each of its loops.
use Rattle.std.proofs.Common.{◌≡◌, ◌+◌, ◌≤◌, drop}
use Rattle.snap_picture.specs.Picture.{counted}
use Rattle.snap_picture.proofs.sought.count.Given as goal

-- the shapes that were counted, and those that are left
abbrev pub invariant-loop-shape : goal.invariant-loop-shape
invariant-loop-shape l =
    (l.found + counted l.sought (drop l.shape-index l.shapes) ≡ counted l.sought l.shapes) × (l.found ≤ l.shape-index)
