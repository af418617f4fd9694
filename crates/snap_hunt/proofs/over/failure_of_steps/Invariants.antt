-- `failure_of_steps` of snap_hunt (src/over.rt): what holds at the head of each of its loops.
use Rattle.std.proofs.Common.{◌≡◌, ◌-◌, length}
use Rattle.snap_runs.specs.Run.{run_over}
use Rattle.snap_audit.specs.Watch.{Watches}
use Rattle.snap_hunt.specs.Counting.{HasCounted}
use Rattle.snap_hunt.proofs.over.failure_of_steps.Given as goal

-- the items that were passed are noted, and the steps of their operations counted
abbrev pub invariant-loop-counter : goal.invariant-loop-counter
invariant-loop-counter g l = record {
  run : l.walk.run ≡ run_over l.program l.schedule;
  watches : Watches l.walk l.watch;
  steps : HasCounted l.walk.run l.most l.walk.at l.counter;
}

abbrev pub decreases-loop-counter : goal.decreases-loop-counter
decreases-loop-counter g l = length l.walk.run.items - l.walk.at
