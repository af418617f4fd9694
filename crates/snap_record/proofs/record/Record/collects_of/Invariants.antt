-- `Record::collects_of` of snap_record (src/record.rt): what holds at the head of each of its loops.
use Rattle.std.proofs.Common.{◌≡◌, ◌-◌, drop, length}
use Rattle.snap_record.specs.Searches.{found_collects}
use Rattle.snap_record.proofs.record.Record.collects_of.Given as goal

-- the event is still to come
abbrev pub invariant-loop-k : goal.invariant-loop-k
invariant-loop-k g l = found_collects l.self l.call (drop l.k l.events) ≡ found_collects l.self l.call l.events

abbrev pub decreases-loop-k : goal.decreases-loop-k
decreases-loop-k g l = length l.events - l.k
