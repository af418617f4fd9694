-- Every scan of B keeps the limits of its promises: on its double collects, with the sharp one, and on its own steps.
use Rattle.std.proofs.Common.{◌+◌, arith}
use Rattle.snap_runs.proofs.Every as every
use Rattle.snap_runs_of_b.specs.Promises.{FewCollects, FewSteps, SharpCollects}
use Rattle.snap_runs_of_b.proofs.Kept.{frame, calm_kept}

pub sharp_collects_lem : SharpCollects
sharp_collects_lem n items = every.few_collects (frame n) items (calm_kept n items)

pub few_collects_lem : FewCollects
few_collects_lem n items = every.fewer_collects (frame n) items (calm_kept n items) (n + 1) (omega arith)

pub few_steps_lem : FewSteps
few_steps_lem n items = every.few_steps (frame n) items (calm_kept n items)
