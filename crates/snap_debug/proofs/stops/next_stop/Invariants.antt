-- `next_stop` of snap_debug (src/stops.rt): what holds at the head of each of its loops.
use Rattle.std.proofs.Common.{◌≡◌, ◌≤◌, ◌-◌, false, length}
use Rattle.std.specs.List.{list_any}
use Rattle.snap_debug.specs.Marks.{next_stop}
use Rattle.snap_debug.specs.Stops.{differs}
use Rattle.snap_debug.specs.Recording.{IsCheckpoint}
use Rattle.snap_debug.proofs.stops.next_stop.Given as goal

-- no stop was passed, and the watched registers are as they were
abbrev pub invariant-loop-current : goal.invariant-loop-current
invariant-loop-current g l =
    let r = l.fn.recording.run in
    record {
      run : l.recording.run ≡ r;
      grows : l.fn.recording.reached ≤ l.recording.reached;
      stands : IsCheckpoint r l.current;
      reached : l.current.position ≤ l.recording.reached;
      unchanged : list_any (differs l.here.machine.state l.current.machine.state) l.marks.watches ≡ false;
      passed : next_stop r l.marks l.current.position (length r.items - l.current.position)
          ≡ next_stop r l.marks l.here.position (length r.items - l.here.position);
    }

abbrev pub decreases-loop-current : goal.decreases-loop-current
decreases-loop-current g l = l.total - l.current.position
