-- `hidden_before` of snap_refutation (src/sights.rt): what its loop keeps.
use Rattle.std.proofs.Common.{IfSome}
use Rattle.snap_judge.specs.Kept.{operation_of}
use Rattle.snap_refutation.specs.Operations.{kept}
use Rattle.snap_refutation.specs.Sights.{HidesUpTo}
use Rattle.snap_refutation.proofs.sights.hidden_before.Given as goal

abbrev pub invariant-loop-place : goal.invariant-loop-place
invariant-loop-place l = IfSome l.latest (HidesUpTo (kept l.operations) (operation_of l.scan) l.word)
