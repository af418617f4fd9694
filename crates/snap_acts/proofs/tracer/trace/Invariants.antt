-- `trace` of snap_acts (src/tracer.rt): what holds at the head of each of its loops.
use Rattle.std.proofs.Common.{◌≡◌, ◌≤◌, ◌-◌, length}
use Rattle.snap_runs.specs.Run.{run_over}
use Rattle.snap_acts.proofs.Traces.{steps_to}
use Rattle.snap_acts.proofs.tracer.trace.Given as goal

-- the walk is in this run, and the steps are those of the items that it has done
abbrev pub invariant-loop-steps : goal.invariant-loop-steps
invariant-loop-steps g l =
    (l.walk.run ≡ run_over l.program l.schedule) × (l.walk.at ≤ length l.walk.run.items)
    × (l.steps.items ≡ steps_to l.walk.run l.walk.at)

abbrev pub decreases-loop-steps : goal.decreases-loop-steps
decreases-loop-steps g l = length l.walk.run.items - l.walk.at
