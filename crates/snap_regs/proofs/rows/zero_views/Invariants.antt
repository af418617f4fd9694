-- `zero_views` of snap_regs (src/rows.rt): what holds at the head of each of its loops.
use Rattle.std.proofs.Common.{◌≡◌, replicate}
use Rattle.snap_regs.proofs.rows.zero_views.Given as goal

abbrev pub invariant-loop-i : goal.invariant-loop-i
invariant-loop-i l = l.views.items ≡ replicate l.i (replicate l.places 0)
