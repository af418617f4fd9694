-- `new_callers` of snap_audit (src/sweep.rt): what holds at the head of each of its loops.
use Rattle.std.proofs.Common.{◌≡◌, replicate}
use Rattle.snap_audit.specs.Sweep.{fresh}
use Rattle.snap_audit.proofs.sweep.new_callers.Given as goal

abbrev pub invariant-loop-k : goal.invariant-loop-k
invariant-loop-k l = l.callers.items ≡ replicate l._k (fresh l.shape.w)
