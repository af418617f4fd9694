-- `steps_of` of snap_judge (src/prepass.rt): what its loop keeps.
use Rattle.std.proofs.Common.{◌≡◌, ◌++◌, drop, length}
use Rattle.snap_judge.specs.Steps.{steps_of}
use Rattle.snap_judge.specs.Kept.{steps_kept}
use Rattle.snap_judge.proofs.prepass.steps_of.Given as goal

abbrev pub invariant-loop-place : goal.invariant-loop-place
invariant-loop-place l = record {
  end : l.place-end ≡ length l.events;
  kept : steps_kept l.steps.items ++ steps_of (drop l.place l.events) ≡ steps_of l.events;
}
