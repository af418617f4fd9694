-- Every scan of M keeps the limits of its promises: on its double collects, with the sharp one, and on its own steps.
use Rattle.std.proofs.Common.{◌+◌, ◌*◌, arith}
use Rattle.snap_runs.proofs.Every as every
use Rattle.snap_runs_of_m.specs.Promises.{FewCollects, FewSteps, SharpCollects}
use Rattle.snap_runs_of_m.proofs.Kept.{frame, calm_kept}

pub sharp_collects_lem : SharpCollects
sharp_collects_lem n w items some = every.few_collects (frame n w) items (calm_kept n w items some)

pub few_collects_lem : FewCollects
few_collects_lem n w items some =
    every.fewer_collects (frame n w) items (calm_kept n w items some) (2 * n + 1) (omega arith)

pub few_steps_lem : FewSteps
few_steps_lem n w items some = every.few_steps (frame n w) items (calm_kept n w items some)
