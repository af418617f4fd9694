-- `items_of` of snap_sched (src/reader.rt): what holds at the head of each of its loops.
use Rattle.std.proofs.Common.{◌≡◌, ◌≤◌, length}
use Rattle.std.specs.List.{AllByRecursion}
use Rattle.snap_words.specs.Shape.{IsOneOf}
use Rattle.snap_semantics.specs.Schedule.{items_of}
use Rattle.snap_semantics.specs.ScheduleText.{FitsItem}
use Rattle.snap_semantics.specs.Table.{who}
use Rattle.snap_sched.specs.ReaderSteps.{items_with}
use Rattle.snap_sched.proofs.reader.items_of.Given as goal

-- the items so far, and those of the lines that are left
abbrev pub invariant-loop-items : goal.invariant-loop-items
invariant-loop-items l = record {
  reads : items_with l.n l.items l.lines ≡ items_of l.fn.n 1000000 l.fn.lines;
  few : length l.items ≤ 1000000;
  processes : AllByRecursion (λ x. IsOneOf l.n (who x)) l.items;
  fits : AllByRecursion FitsItem l.items;
  same : l.n ≡ l.fn.n;
}

abbrev pub decreases-loop-items : goal.decreases-loop-items
decreases-loop-items l = length l.lines
