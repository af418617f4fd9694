-- `next_event` of snap_refutation (src/operations.rt): what its loop keeps.
use Rattle.std.proofs.Common.{◌≡◌, drop}
use Rattle.snap_judge.specs.Steps.{next_of}
use Rattle.snap_refutation.proofs.operations.next_event.Given as goal

abbrev pub invariant-loop-event : goal.invariant-loop-event
invariant-loop-event l = next_of l.process (drop l.event-index l.events) ≡ next_of l.process l.events
