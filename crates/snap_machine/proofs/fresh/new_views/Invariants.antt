-- `new_views` of snap_machine (src/fresh.rt): what holds at the head of each of its loops.
use Rattle.std.proofs.Common.{◌≡◌, replicate}
use Rattle.snap_machine.proofs.fresh.new_views.Given as goal

abbrev pub invariant-loop-k : goal.invariant-loop-k
invariant-loop-k l = l.views.items ≡ replicate l._k (replicate l.shape.w 0)
