-- `first_items` of snap_prompt (src/edits.rt): what holds at the head of each of its loops.
use Rattle.std.proofs.Common.{◌≡◌, ◌≤◌, ◌-◌, ◌++◌, length}
use Rattle.snap_prompt.proofs.edits.first_items.Given as goal

-- the items so far, and those that are left
abbrev pub invariant-loop-left : goal.invariant-loop-left
invariant-loop-left l = record {
  all : l.first ++ l.left ≡ l.items;
  few : length l.first ≤ l.count;
}

abbrev pub decreases-loop-left : goal.decreases-loop-left
decreases-loop-left l = l.count - length l.first
