-- `is_only` of snap_refutation (src/sights.rt): what its loop keeps.
use Rattle.std.proofs.Common.{◌≡◌, ℕ, ◌<◌, Option, Some, length}
use Rattle.snap_refutation.specs.Operations.{kept}
use Rattle.snap_refutation.specs.Sights.{MaySee}
use Rattle.snap_refutation.proofs.sights.is_only.Given as goal

abbrev pub invariant-loop-place : goal.invariant-loop-place
invariant-loop-place l = record {
  end : l.place-end ≡ length l.operations;
  each : (i : ℕ) → i < l.place → MaySee (kept l.operations) l.sight (Some i) → ◌≡◌ {A = Option ℕ} (Some i) l.seen;
}
