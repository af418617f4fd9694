-- `copied_events` of snap_judge (src/history.rt): what holds at the head of each of its loops.
use Rattle.std.proofs.Common.{◌≡◌, ◌++◌, drop}
use Rattle.snap_judge.proofs.history.copied_events.Given as goal

-- the copies so far, and the events that are left
abbrev pub invariant-loop-event : goal.invariant-loop-event
invariant-loop-event l = l.copies.items ++ drop l.event-index l.events ≡ l.events
