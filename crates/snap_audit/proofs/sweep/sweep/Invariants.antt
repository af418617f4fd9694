-- `sweep` of snap_audit (src/sweep.rt): what holds at the head of each of its loops.
use Rattle.std.proofs.Common.{length, drop, ◌-◌}
use Rattle.snap_runs.specs.Run.{Run}
use Rattle.snap_audit.specs.Sweep.{IsToldBy, Sweeps}
use Rattle.snap_audit.proofs.sweep.sweep.Given as goal

-- the events from here on are left
abbrev pub invariant-loop-k : goal.invariant-loop-k
invariant-loop-k l =
    (r : Run) → IsToldBy r l.fn.shape l.changes l.events l.collects →
    Sweeps r l.changes l.callers.items l.verdicts.items (drop l.k l.events)

abbrev pub decreases-loop-k : goal.decreases-loop-k
decreases-loop-k l = length l.events - l.k
