-- `last_on_way` of snap_debug (src/stops.rt): what holds at the head of each of its loops.
use Rattle.std.proofs.Common.{◌≡◌, ◌<◌, ◌+◌, ◌-◌}
use Rattle.snap_debug.specs.Marks.{last_stop}
use Rattle.snap_debug.specs.Stops.{AreAt, or_before}
use Rattle.snap_debug.proofs.stops.last_on_way.Given as goal

-- the last stop so far is known
abbrev pub invariant-loop-walk : goal.invariant-loop-walk
invariant-loop-walk g l =
    let r = l.recording.run in
    record {
      walk : AreAt r l.walk;
      before : l.walk.before.position < l.position;
      found : last_stop r l.marks (l.walk.before.position + 1)
          ≡ or_before l.last (last_stop r l.marks (l.fn.walk.before.position + 1));
    }

abbrev pub decreases-loop-walk : goal.decreases-loop-walk
decreases-loop-walk g l = l.position - l.walk.before.position
