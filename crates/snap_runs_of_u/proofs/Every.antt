-- Every run of U keeps its promises, by the frame that U, B and M share: no
-- traps, one write for each update, a point for each scan, linearizable.
use Rattle.std.proofs.Common.{ℕ, ◌+◌, ◌^◌, Some, subst, sym, arith}
use Rattle.std.proofs.lemmas.Bool.{eqb-true}
use Rattle.snap_runs.specs.Snapshot.{IsSnapshotRun}
use Rattle.snap_runs.proofs.Prefixes.{write_strongly_linearizable_by_points}
use Rattle.snap_runs.proofs.Every as every
use Rattle.snap_runs.proofs.Single as single
use Rattle.snap_runs_of_u.specs.ListingU.{listing_u}
use Rattle.snap_runs_of_u.specs.Promises.{NeverTraps, ChangesOnlyAt32, WritesItsUpdate, WritesOnce, HavePoints}
use Rattle.snap_runs_of_u.specs.Promises.{Linearizable, OperationsHavePlaces, WriteStronglyLinearizable, WaitFree}
use Rattle.snap_runs_of_u.specs.Promises.{OwnUpdatesAreSeen, RunsAreSnapshots, bounds, square}
use Rattle.snap_runs_of_u.proofs.Kept.{frame, calm_kept}
use Rattle.snap_runs_of_u.proofs.Ready.{ready}
use Rattle.snap_runs_of_u.proofs.Runs.{invariant}

pub never_traps_lem : NeverTraps
never_traps_lem n items suffice = every.never_traps (frame n) items (calm_kept n items suffice)

pub changes_only_at_32_lem : ChangesOnlyAt32
changes_only_at_32_lem n items suffice = every.changes_only_at (frame n) items (calm_kept n items suffice)

pub writes_its_update_lem : WritesItsUpdate
writes_its_update_lem n items suffice = every.writes_its_update (frame n) items (calm_kept n items suffice)

pub writes_once_lem : WritesOnce
writes_once_lem n items suffice = every.writes_once (frame n) items (calm_kept n items suffice)

pub have_points_lem : HavePoints
have_points_lem n items suffice = every.have_points (frame n) items (calm_kept n items suffice)

pub linearizable_lem : Linearizable
linearizable_lem n items suffice = every.linearizable (frame n) items (calm_kept n items suffice)

pub operations_have_places_lem : OperationsHavePlaces
operations_have_places_lem n items suffice = every.operations_have_places (frame n) items (calm_kept n items suffice)

pub write_strongly_linearizable_lem : WriteStronglyLinearizable
write_strongly_linearizable_lem n =
    write_strongly_linearizable_by_points listing_u (square n) (Some (2 ^ 64)) 32
    (λ items short. every.linearization_points (frame n) items (calm_kept n items short))

pub wait_free_lem : WaitFree
wait_free_lem n items suffice = every.wait_free (frame n) items (calm_kept n items suffice) _ (λ some. omega arith)

pub own_updates_are_seen_lem : OwnUpdatesAreSeen
own_updates_are_seen_lem n items suffice =
    single.own_updates_are_seen (frame n) (λ i word is. is) items (calm_kept n items suffice)
    (λ steady t short. (invariant n _ (ready n items suffice steady) t short).size)

-- of a shape that fits, as it has a word for each process
pub runs_are_snapshots_lem : RunsAreSnapshots
runs_are_snapshots_lem s items shape fit suffice =
    subst (λ (w : ℕ).
    IsSnapshotRun (bounds s) (record { source = listing_u; shape = record { n = s.n; w = w }; items = items }))
    (sym (eqb-true s.w s.n fit))
    (every.snapshot (frame s.n) items (calm_kept s.n items suffice) (s.n + 1) (omega arith))
