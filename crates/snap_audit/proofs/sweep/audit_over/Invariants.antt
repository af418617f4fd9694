-- `audit_over` of snap_audit (src/sweep.rt): what holds at the head of each of its loops.
use Rattle.std.proofs.Common.{◌≡◌, ◌-◌, length}
use Rattle.snap_runs.specs.Run.{run_over}
use Rattle.snap_audit.specs.Watch.{Watches}
use Rattle.snap_audit.proofs.sweep.audit_over.Given as goal

-- the items that were passed are noted
abbrev pub invariant-loop-watch : goal.invariant-loop-watch
invariant-loop-watch g l = record {
  run : l.walk.run ≡ run_over l.program l.schedule;
  watches : Watches l.walk l.watch;
}

abbrev pub decreases-loop-watch : goal.decreases-loop-watch
decreases-loop-watch g l = length l.walk.run.items - l.walk.at
