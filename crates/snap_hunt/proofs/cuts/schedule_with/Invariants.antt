-- `schedule_with` of snap_hunt (src/cuts.rt): what holds at the head of each of its loops.
use Rattle.std.proofs.Common.{◌≡◌, length, take}
use Rattle.snap_hunt.proofs.cuts.schedule_with.Given as goal

-- the first of the items
abbrev pub invariant-loop-item : goal.invariant-loop-item
invariant-loop-item l = record {
  all : l.all ≡ take l.item-index l.items;
  count : length l.all ≡ l.item-index;
}
