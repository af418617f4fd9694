-- `last_stop` of snap_debug (src/stops.rt): what holds at the head of each of its loops.
use Rattle.std.proofs.Common.{◌≡◌, ◌≤◌}
use Rattle.snap_debug.specs.Marks.{last_stop}
use Rattle.snap_debug.proofs.stops.last_stop.Given as goal

-- there is no stop from the end on
abbrev pub invariant-loop-end : goal.invariant-loop-end
invariant-loop-end g l = record {
  within : l.end ≤ l.position;
  passed : last_stop l.recording.run l.marks l.end ≡ last_stop l.recording.run l.marks l.position;
}

abbrev pub decreases-loop-end : goal.decreases-loop-end
decreases-loop-end g l = l.end
