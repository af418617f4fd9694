-- `skipped_calls` of snap_live_output (src/uncalled.rt): what holds at the head of each of its loops.
-- The calls that items of a run skipped, in order.
use Rattle.std.proofs.Common.{◌≡◌, ◌++◌}
use Rattle.snap_live_output.specs.Uncalled.{skipped_calls}
use Rattle.snap_live_output.proofs.uncalled.skipped_calls.Given as goal

-- the calls so far, and those of the items that are left
abbrev pub invariant-loop-item : goal.invariant-loop-item
invariant-loop-item l =
    (l.calls.items ++ skipped_calls l.kind l.shape l.left ≡ skipped_calls l.kind l.shape l.items.items)
    × goal.iterator-loop-item.can_next l.left × goal.iterator-loop-item.is_finite l.left
