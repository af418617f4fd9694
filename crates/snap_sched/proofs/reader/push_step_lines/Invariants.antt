-- `push_step_lines` of snap_sched (src/reader.rt): what holds at the head of each of its loops.
use Rattle.std.proofs.Common.{◌≡◌, ◌≤◌, length}
use Rattle.std.specs.List.{AllByRecursion}
use Rattle.snap_words.specs.Shape.{IsOneOf}
use Rattle.snap_semantics.specs.ScheduleText.{FitsItem}
use Rattle.snap_semantics.specs.Table.{who}
use Rattle.snap_sched.specs.ReaderSteps.{items_with}
use Rattle.snap_sched.proofs.reader.push_step_lines.Given as goal

-- the items so far, and those of the lines that are left
abbrev pub invariant-loop-line : goal.invariant-loop-line
invariant-loop-line l = record {
  reads : items_with l.fn.n l.items l.lines ≡ items_with l.fn.n l.fn.items l.fn.lines;
  few : length l.items ≤ 1000000;
  processes : AllByRecursion (λ x. IsOneOf l.fn.n (who x)) l.items;
  fits : AllByRecursion FitsItem l.items;
  left : length l.lines ≤ length l.fn.lines;
  same : l.n ≡ l.fn.n;
}

abbrev pub decreases-loop-line : goal.decreases-loop-line
decreases-loop-line l = length l.lines
