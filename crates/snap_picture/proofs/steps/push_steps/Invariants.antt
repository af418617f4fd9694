-- `push_steps` of snap_picture (src/steps.rt): what holds at the head of each of its loops.
use Rattle.std.proofs.Common.{◌≡◌, ◌++◌}
use Rattle.snap_picture.specs.LastPlaces.{AreLast}
use Rattle.snap_picture.specs.Shapes.{shapes_to}
use Rattle.snap_picture.proofs.steps.push_steps.Given as goal

abbrev pub invariant-loop-k : goal.invariant-loop-k
invariant-loop-k l =
    (l.shapes.items ≡ l.fn.shapes.items ++ shapes_to l.steps l.k) × AreLast l.steps l.k l.writes.places
