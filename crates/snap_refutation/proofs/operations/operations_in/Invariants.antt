-- `operations_in` of snap_refutation (src/operations.rt): what its loop keeps.
use Rattle.std.proofs.Common.{◌≡◌, ◌++◌, drop, length}
use Rattle.snap_judge.specs.Steps.{steps_of}
use Rattle.snap_refutation.specs.Operations.{called_in, kept}
use Rattle.snap_refutation.proofs.operations.operations_in.Given as goal

abbrev pub invariant-loop-place : goal.invariant-loop-place
invariant-loop-place l = record {
  end : l.place-end ≡ length l.events;
  kept : kept l.operations.items ++ called_in (steps_of (drop l.place l.events)) ≡ called_in (steps_of l.events);
}
