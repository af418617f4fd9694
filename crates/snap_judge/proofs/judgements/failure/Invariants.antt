-- `failure` of snap_judge (src/judgements.rt): what its loop keeps.
use Rattle.std.proofs.Common.{◌<◌, ◌≤◌, ◌-◌, length}
use Rattle.snap_judge.specs.Linearizable.{IsLinearizableHistory, up_to}
use Rattle.snap_judge.proofs.judgements.failure.Given as goal

abbrev pub invariant-loop-holds : goal.invariant-loop-holds
invariant-loop-holds l = record {
  order : l.holds < l.fails;
  within : l.fails ≤ length l.history.events;
  holds : IsLinearizableHistory (up_to l.holds l.history);
  fails : IsLinearizableHistory (up_to l.fails l.history) → ⊥;
}

abbrev pub decreases-loop-holds : goal.decreases-loop-holds
decreases-loop-holds l = l.fails - l.holds
