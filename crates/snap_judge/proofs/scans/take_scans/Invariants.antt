-- `take_scans` of snap_judge (src/scans.rt): what its loop keeps.
use Rattle.std.proofs.Common.{◌≡◌, ◌<◌, ℕ, length}
use Rattle.snap_judge.specs.Kept.{ChangesSlotsAlone, GoesOn, IsSettledAt}
use Rattle.snap_judge.proofs.scans.take_scans.Given as goal

abbrev pub invariant-loop-place : goal.invariant-loop-place
invariant-loop-place l = record {
  goes : GoesOn l.steps l.initial.order.items l.initial.config l.order.items l.config;
  alone : ChangesSlotsAlone l.initial.config l.config;
  end : l.place-end ≡ length l.config.slots.items;
  settled : (p : ℕ) → p < l.place → IsSettledAt l.steps l.config p;
}
