-- `events_until` of snap_debug (src/recording.rt): what holds at the head of each of its loops.
use Rattle.std.proofs.Common.{◌≡◌, ◌-◌, ◌++◌, drop, length, take}
use Rattle.snap_debug.proofs.Recordings.{until}
use Rattle.snap_debug.proofs.recording.events_until.Given as goal

-- none of those passed is later
abbrev pub invariant-loop-k : goal.invariant-loop-k
invariant-loop-k l = until l.position l.events ≡ take l.k l.events ++ until l.position (drop l.k l.events)

abbrev pub decreases-loop-k : goal.decreases-loop-k
decreases-loop-k l = length l.events - l.k
