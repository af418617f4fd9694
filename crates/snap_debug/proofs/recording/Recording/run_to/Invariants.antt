-- `Recording::run_to` of snap_debug (src/recording.rt): what holds at the head of each of its loops.
use Rattle.std.proofs.Common.{◌≤◌, ◌-◌}
use Rattle.snap_debug.specs.Recording.{IsCheckpoint}
use Rattle.snap_debug.proofs.recording.Recording.run_to.Given as goal

-- the machine is the run's, and not past the position
abbrev pub invariant-loop-current : goal.invariant-loop-current
invariant-loop-current g l = record {
  stands : IsCheckpoint l.self.run l.current;
  before : l.current.position ≤ l.position;
}

abbrev pub decreases-loop-current : goal.decreases-loop-current
decreases-loop-current g l = l.position - l.current.position
