-- `StepCounter::pass` of snap_hunt (src/step_counter.rt): what its loop keeps.
use Rattle.std.proofs.Common.{◌≡◌, ◌≤◌, ◌-◌, Bool, List}
use Rattle.snap_runs.specs.Run.{Run}
use Rattle.snap_hunt.specs.Counting.{AreUntold, HasCounted}
use Rattle.snap_hunt.proofs.step_counter.StepCounter.pass.Given as goal

-- the items so far are counted
abbrev pub invariant-loop-self : goal.invariant-loop-self
invariant-loop-self l = record {
  begun : l.fn.self.done ≤ l.self.done;
  order : l.self.done ≤ l.until;
  most : l.self.most ≡ l.fn.self.most;
  counted :
      (r : Run) (quiet : List Bool) → HasCounted r l.fn.self.most l.fn.self.done l.fn.self →
      AreUntold quiet r l.fn.self.done l.until → HasCounted r l.self.most l.self.done l.self;
}

abbrev pub decreases-loop-self : goal.decreases-loop-self
decreases-loop-self l = l.until - l.self.done
