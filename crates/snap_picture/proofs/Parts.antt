-- The items from one to another of a run make a part that can be drawn, where they are at least one and not too many.
use Rattle.std.proofs.Common.{ℕ, ◌+◌, ◌<◌, ◌≤◌, Bool}
use Rattle.snap_words.specs.Shape.{IsOneOf, max_count}
use Rattle.snap_picture.specs.Window.{IsPart}

-- at least one item, and not too many
pub is_part : (from to n : ℕ) (reads : Bool) → from < to → to ≤ from + 20000 → to ≤ 1000000 → IsOneOf max_count n →
    IsPart (record { from = from; to = to; processes = n; reads = reads })
is_part from to n reads some few counted processes =
    record { some = some; few = few; counted = counted; processes_are = processes }
