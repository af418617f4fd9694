-- The histories of the runs of U, B and M are linearizable, as the runs are.
use Rattle.std.proofs.Common.{◌≡◌, ◌≤◌, length, ap, arith}
use Rattle.snap_words.specs.Shape.{Counts, max_items}
use Rattle.snap_words.specs.declared.kind.KindTag.{KindTag}
use Rattle.snap_semantics.specs.IsListing.{IsListing}
use Rattle.snap_runs.specs.Linearization.{IsLinearizable}
use Rattle.snap_runs.specs.Run.{IsValidRun, Run}
use Rattle.snap_judge.specs.Linearizable.{LinearizableFromTheBeginning}
use Rattle.snap_run_judge.specs.RunHistory.{RunsHaveHistories, history_of}
use Rattle.snap_live.specs.Turns.{run_of, setting_of}
use Rattle.snap_live.specs.declared.seat_state.Setting.{Setting}
use Rattle.snap_history_laws.specs.threads.ShippedLaws.{IsShapeFor, shipped_over}
use Rattle.snap_history_laws.specs.judgements.RunLaws.{RunsAreToldByTheirHistories}
use Rattle.snap_history_laws.specs.judgements.ShippedLaws.{IsSeenLinearizable, ShippedRunsAreSeenLinearizable}
use Rattle.snap_history_laws.proofs.threads.Shipped.{suffices}

-- a run that is linearizable is seen so
pub seen : RunsHaveHistories → RunsAreToldByTheirHistories → LinearizableFromTheBeginning → (r : Run) →
    IsListing r.source → IsValidRun r → IsLinearizable r → IsSeenLinearizable r
seen have told beginning r listing fits linear =
    let history = have r listing fits in
    let linearizable = (told r fits).linearizable.0 linear in
    record {
      history = history;
      linearizable = linearizable;
      never_accused = λ k fails. fails.fails (beginning (history_of r) k history linearizable);
    }

-- what is kept of a run of a shipped listing is seen so
pub kept_run : ((g : KindTag) → ShippedRunsAreSeenLinearizable g) → (g : KindTag) (shape : Counts) (r : Run) →
    IsShapeFor g shape → setting_of r ≡ shipped_over g shape → IsValidRun r → length r.items ≤ max_items →
    IsSeenLinearizable r
kept_run runs g shape r fit is valid short =
    let same : r ≡ run_of (shipped_over g shape) r.items = ap (λ (b : Setting). run_of b r.items) is in
    rw same (runs g shape r.items fit.0 fit.1 (suffices g r.items (omega arith)) (rw same at valid))
