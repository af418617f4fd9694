-- Every scan of U keeps the limits of its promises: on its double collects, with the sharp one, and on its own steps.
use Rattle.std.proofs.Common.{◌+◌, arith}
use Rattle.snap_runs.proofs.Every as every
use Rattle.snap_runs_of_u.specs.Promises.{FewCollects, FewSteps, SharpCollects}
use Rattle.snap_runs_of_u.proofs.Kept.{frame, calm_kept}

pub sharp_collects_lem : SharpCollects
sharp_collects_lem n items suffice = every.few_collects (frame n) items (calm_kept n items suffice)

pub few_collects_lem : FewCollects
few_collects_lem n items suffice =
    every.fewer_collects (frame n) items (calm_kept n items suffice) (n + 1) (omega arith)

pub few_steps_lem : FewSteps
few_steps_lem n items suffice = every.few_steps (frame n) items (calm_kept n items suffice)
