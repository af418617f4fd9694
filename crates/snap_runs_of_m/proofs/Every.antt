-- Every run of M keeps its promises, by the frame that U, B and M share: no
-- traps, one write for each update, a point for each scan, linearizable.
use Rattle.std.proofs.Common.{◌+◌, ◌*◌, ◌<◌, None, arith}
use Rattle.snap_runs.proofs.Prefixes.{write_strongly_linearizable_by_points}
use Rattle.snap_runs.proofs.Every as every
use Rattle.snap_runs_of_m.specs.ListingM.{listing_m}
use Rattle.snap_runs_of_m.specs.Promises.{NeverTraps, ChangesOnlyAt57, WritesItsUpdate, WritesOnce, HavePoints}
use Rattle.snap_runs_of_m.specs.Promises.{Linearizable, OperationsHavePlaces, WriteStronglyLinearizable, WaitFree}
use Rattle.snap_runs_of_m.specs.Promises.{RunsAreSnapshots, counts}
use Rattle.snap_runs_of_m.proofs.Kept.{frame, calm_kept}

pub never_traps_lem : NeverTraps
never_traps_lem n w items some = every.never_traps (frame n w) items (calm_kept n w items some)

pub changes_only_at_57_lem : ChangesOnlyAt57
changes_only_at_57_lem n w items some = every.changes_only_at (frame n w) items (calm_kept n w items some)

pub writes_its_update_lem : WritesItsUpdate
writes_its_update_lem n w items some = every.writes_its_update (frame n w) items (calm_kept n w items some)

pub writes_once_lem : WritesOnce
writes_once_lem n w items some = every.writes_once (frame n w) items (calm_kept n w items some)

pub have_points_lem : HavePoints
have_points_lem n w items some = every.have_points (frame n w) items (calm_kept n w items some)

pub linearizable_lem : Linearizable
linearizable_lem n w items some = every.linearizable (frame n w) items (calm_kept n w items some)

pub operations_have_places_lem : OperationsHavePlaces
operations_have_places_lem n w items some = every.operations_have_places (frame n w) items (calm_kept n w items some)

pub write_strongly_linearizable_lem : WriteStronglyLinearizable
write_strongly_linearizable_lem n w some =
    write_strongly_linearizable_by_points listing_m (counts n w) None 57
    (λ items short. every.linearization_points (frame n w) items (calm_kept n w items some))

pub wait_free_lem : WaitFree
wait_free_lem n w items some = every.wait_free (frame n w) items (calm_kept n w items some) _ (λ many. omega arith)

-- of a shape, as it has a word
pub runs_are_snapshots_lem : RunsAreSnapshots
runs_are_snapshots_lem s items shape fit =
    let one = shape.1.0 in
    let some : 0 < s.w = omega (arith, one) in
    every.snapshot (frame s.n s.w) items (calm_kept s.n s.w items some) (2 * s.n + 1) (omega arith)
