-- `Course::take_times` of snap_batch (src/course.rt): what holds at the head of each of its loops.
use Rattle.std.proofs.Common.{◌-◌, ◌≤◌, replicate}
use Rattle.snap_batch.specs.Courses.{Takes}
use Rattle.snap_batch.proofs.course.Course.take_times.Given as goal

-- the item was done as often as the number has grown
abbrev pub invariant-loop-self : goal.invariant-loop-self
invariant-loop-self g l = record {
  taken : Takes l.fn.self (replicate (l.self.done - l.fn.self.done) l.item) l.self;
  begun : l.fn.self.done ≤ l.self.done;
  within : l.self.done ≤ l.end;
}

abbrev pub decreases-loop-self : goal.decreases-loop-self
decreases-loop-self g l = l.end - l.self.done
