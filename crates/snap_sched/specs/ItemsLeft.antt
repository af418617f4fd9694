-- `items_left`: the items that an `ItemIter` over a schedule has still to give: steps left of a segment, and the
-- segments after it.
use Rattle.std.specs.Prelude.{ℕ, ◌<◌, List, ◌++◌, replicate, ⊤}
use Rattle.snap_semantics.specs.declared.process.Item.{Item}
use Rattle.snap_semantics.specs.declared.process.Item.TheVariants as item
use Rattle.snap_sched.specs.Segments.{items_of_segments}
use Rattle.snap_sched.specs.declared.segments.Segment.{Segment}
use Rattle.snap_sched.specs.declared.segments.Segment.TheVariants as segments

-- a number of steps of a process that are left of a segment, and the items of the segments behind it
abbrev pub items_left : ℕ → ℕ → List Segment → List Item
items_left i k rs = replicate k (item.Step i) ++ items_of_segments rs

-- a segment of steps has one at least
abbrev pub IsSome : Segment → Type 0
IsSome (segments.Steps i count) = 0 < count
IsSome (segments.Call i op) = ⊤
IsSome (segments.Crash i) = ⊤
