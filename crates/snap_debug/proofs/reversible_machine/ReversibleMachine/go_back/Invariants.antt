-- `ReversibleMachine::go_back` of snap_debug (src/reversible_machine.rt): what holds at the head of each of its loops.
use Rattle.std.proofs.Common.{◌≡◌, ◌≤◌, ◌-◌}
use Rattle.snap_runs.specs.Run.{Run}
use Rattle.snap_debug.specs.Recording.{IsReversible, start}
use Rattle.snap_debug.proofs.reversible_machine.ReversibleMachine.go_back.Given as goal

-- the way back is as long as it was, from where it is now
abbrev pub invariant-loop-self : goal.invariant-loop-self
invariant-loop-self g l = record {
  leads : (r : Run) → IsReversible r l.fn.self → IsReversible r l.self;
  before : l.position ≤ l.self.current.position;
  start : start l.self ≡ start l.fn.self;
}

abbrev pub decreases-loop-self : goal.decreases-loop-self
decreases-loop-self g l = l.self.current.position - l.position
