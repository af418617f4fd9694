-- `find` of snap_certify (src/pass.rt): what holds at the head of each of its loops.
use Rattle.std.proofs.Common.{◌≡◌, ◌-◌, length}
use Rattle.snap_runs.specs.Run.{run_over}
use Rattle.snap_audit.specs.Watch.{Watches}
use Rattle.snap_certify.specs.Finding.{Finds}
use Rattle.snap_certify.proofs.pass.find.Given as goal

-- the items that were passed are noted
abbrev pub invariant-loop-watch : goal.invariant-loop-watch
invariant-loop-watch g l = record {
  run : l.walk.run ≡ run_over l.program l.schedule;
  line : l.finder.line ≡ l.line;
  finds : Finds l.walk.run l.walk.at l.finder;
  watches : Watches l.walk l.watch;
}

abbrev pub decreases-loop-watch : goal.decreases-loop-watch
decreases-loop-watch g l = length l.walk.run.items - l.walk.at
