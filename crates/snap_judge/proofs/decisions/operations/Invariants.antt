-- `operations` of snap_judge (src/decisions.rt): what its loop keeps.
use Rattle.std.proofs.Common.{◌≡◌, map, take}
use Rattle.snap_judge.specs.Kept.{called_at, operation_of}
use Rattle.snap_judge.proofs.decisions.operations.Given as goal

abbrev pub invariant-loop-call : goal.invariant-loop-call
invariant-loop-call l = map operation_of l.all.items ≡ map (called_at l.steps) (take l.call-index l.order)
