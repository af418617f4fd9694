-- The segments over which an `ItemIter` of a schedule starts have at least one item each (`IsSome`).
use Rattle.std.proofs.Common.{◌≡◌, List, ap, sym, ◌∙◌, map}
use Rattle.std.specs.List.{AllByRecursion}
use Rattle.snap_semantics.specs.declared.process.Item.{Item}
use Rattle.snap_semantics.specs.ScheduleText.{forms_of}
use Rattle.snap_sched.specs.ItemsLeft.{IsSome}
use Rattle.snap_sched.specs.Segments.{segment_form, items_of_segments}
use Rattle.snap_sched.specs.declared.segments.Segment.{Segment}
use Rattle.snap_sched.proofs.Keeping.{greatest_some}

-- at the start of greatest segments
pub started : (rs : List Segment) (xs : List Item) → items_of_segments rs ≡ xs →
    map segment_form rs ≡ forms_of xs → AllByRecursion IsSome rs
started rs xs items greatest = greatest_some rs (ap forms_of items ∙ sym greatest)
