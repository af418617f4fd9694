-- `Items::item` of snap_sched (src/item_iter.rt): what holds at the head of each of its loops.
use Rattle.std.proofs.Common.{◌≡◌, ◌-◌, ◌≤◌, slice_get}
use Rattle.snap_sched.proofs.items.Items.item.Given as goal

-- the item that is looked for is as far on in what is left as is left to go
abbrev pub invariant-loop-passed : goal.invariant-loop-passed
invariant-loop-passed l =
    (1 ≤ l._passed) × (l._passed ≤ l.t) × (slice_get l.items (l.t - l._passed) ≡ slice_get l.self (l.t - 1))
