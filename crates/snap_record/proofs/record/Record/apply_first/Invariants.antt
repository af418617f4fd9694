-- `Record::apply_first` of snap_record (src/record.rt): what holds at the head of each of its loops.
use Rattle.std.proofs.Common.{◌-◌}
use Rattle.snap_record.proofs.Doing.{Doing}
use Rattle.snap_record.proofs.record.Record.apply_first.Given as goal

-- the first k items are done, and the others are left
abbrev pub invariant-loop-k : goal.invariant-loop-k
invariant-loop-k g l = Doing l.fn.self l.items l.count l.k l.self l.left

abbrev pub decreases-loop-k : goal.decreases-loop-k
decreases-loop-k g l = l.count - l.k
