-- `skipped_calls` of snap_program (src/skipped.rt): what holds at the head of each of its loops.
use Rattle.std.proofs.Common.{◌≡◌, ◌-◌, length}
use Rattle.snap_runs.specs.Run.{run_over}
use Rattle.snap_program.specs.Skipped.{skipped_calls}
use Rattle.snap_program.proofs.skipped.skipped_calls.Given as goal

-- the calls of the items that were passed
abbrev pub invariant-loop-calls : goal.invariant-loop-calls
invariant-loop-calls g l = record {
  run : l.walk.run ≡ run_over l.program l.schedule;
  calls : l.calls.items ≡ skipped_calls l.walk.run l.walk.at;
}

abbrev pub decreases-loop-calls : goal.decreases-loop-calls
decreases-loop-calls g l = length l.walk.run.items - l.walk.at
