-- `collects_until` of snap_record (src/search.rt): what holds at the head of each of its loops.
use Rattle.std.proofs.Common.{◌≡◌, ◌-◌, drop, length}
use Rattle.snap_runs.specs.Run.{Run}
use Rattle.snap_record.specs.Searches.{collects_until}
use Rattle.snap_record.proofs.search.collects_until.Given as goal

-- the answer is still to come
abbrev pub invariant-loop-k : goal.invariant-loop-k
invariant-loop-k l = (r : Run) → collects_until r l.i (drop l.k l.events) ≡ collects_until r l.i (drop l.from l.events)

abbrev pub decreases-loop-k : goal.decreases-loop-k
decreases-loop-k l = length l.events - l.k
