-- `items_of` of snap_record (src/scheduled.rt): what holds at the head of each of its loops.
use Rattle.std.proofs.Common.{◌≡◌, take}
use Rattle.snap_record.proofs.scheduled.items_of.Given as goal

-- the first items so far
abbrev pub invariant-loop-t : goal.invariant-loop-t
invariant-loop-t l = l.items ≡ take l.t l.history.items
