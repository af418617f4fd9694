-- `ReversibleMachine::go_on` of snap_debug (src/reversible_machine.rt): what holds at the head of each of its loops.
use Rattle.std.proofs.Common.{◌≡◌, ◌≤◌, ◌-◌}
use Rattle.snap_debug.specs.Recording.{IsReversible, start}
use Rattle.snap_debug.proofs.reversible_machine.ReversibleMachine.go_on.Given as goal

-- the way is one of the run's, and not past the position
abbrev pub invariant-loop-self : goal.invariant-loop-self
invariant-loop-self g l = record {
  leads : IsReversible l.recording.run l.self;
  grows : l.fn.self.current.position ≤ l.self.current.position;
  before : l.self.current.position ≤ l.position;
  start : start l.self ≡ start l.fn.self;
}

abbrev pub decreases-loop-self : goal.decreases-loop-self
decreases-loop-self g l = l.position - l.self.current.position
