-- `call_before` of snap_anatomy (src/scans.rt): what holds at the head of each of its loops.
use Rattle.std.proofs.Common.{◌≡◌}
use Rattle.snap_anatomy.specs.Scans.{call_before}
use Rattle.snap_anatomy.proofs.scans.call_before.Given as goal

abbrev pub invariant-loop-k : goal.invariant-loop-k
invariant-loop-k l = call_before l.steps l.process l.k ≡ call_before l.steps l.process l.count

abbrev pub decreases-loop-k : goal.decreases-loop-k
decreases-loop-k l = l.k
