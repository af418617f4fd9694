-- `advance` of snap_judge (src/advance.rt): what its loop keeps.
use Rattle.std.proofs.Common.{◌≡◌, length}
use Rattle.snap_judge.specs.Kept.{GoesOn, IsConfig, IsSettled, KeepsCounts}
use Rattle.snap_judge.proofs.advance.advance.Given as goal

abbrev pub invariant-loop : goal.invariant-loop
invariant-loop l = record {
  goes : GoesOn l.steps l.initial.order.items l.initial.config l.order.items l.config;
  settled : IsSettled l.steps l.config;
  kept : KeepsCounts l.initial.config l.config;
  config : IsConfig l.steps l.config;
  there : l.counter ≡ l.config.position;
  end : l.end ≡ length l.steps;
}
