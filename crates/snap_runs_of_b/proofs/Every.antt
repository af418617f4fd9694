-- Every run of B keeps its promises, by the frame that U, B and M share: no
-- traps, one write for each update, a point for each scan, linearizable.
use Rattle.std.proofs.Common.{ℕ, ◌+◌, None, subst, sym, arith}
use Rattle.std.proofs.lemmas.Bool.{eqb-true}
use Rattle.snap_runs.specs.Snapshot.{IsSnapshotRun}
use Rattle.snap_runs.proofs.Prefixes.{write_strongly_linearizable_by_points}
use Rattle.snap_runs.proofs.Every as every
use Rattle.snap_runs.proofs.Single as single
use Rattle.snap_runs_of_b.specs.ListingB.{listing_b}
use Rattle.snap_runs_of_b.specs.Promises.{NeverTraps, ChangesOnlyAt46, WritesItsUpdate, WritesOnce, HavePoints}
use Rattle.snap_runs_of_b.specs.Promises.{Linearizable, OperationsHavePlaces, WriteStronglyLinearizable, WaitFree}
use Rattle.snap_runs_of_b.specs.Promises.{OwnUpdatesAreSeen, RunsAreSnapshots, bounds, square}
use Rattle.snap_runs_of_b.proofs.Kept.{frame, calm_kept}
use Rattle.snap_runs_of_b.proofs.Runs.{invariant}

pub never_traps_lem : NeverTraps
never_traps_lem n items = every.never_traps (frame n) items (calm_kept n items)

pub changes_only_at_46_lem : ChangesOnlyAt46
changes_only_at_46_lem n items = every.changes_only_at (frame n) items (calm_kept n items)

pub writes_its_update_lem : WritesItsUpdate
writes_its_update_lem n items = every.writes_its_update (frame n) items (calm_kept n items)

pub writes_once_lem : WritesOnce
writes_once_lem n items = every.writes_once (frame n) items (calm_kept n items)

pub have_points_lem : HavePoints
have_points_lem n items = every.have_points (frame n) items (calm_kept n items)

pub linearizable_lem : Linearizable
linearizable_lem n items = every.linearizable (frame n) items (calm_kept n items)

pub operations_have_places_lem : OperationsHavePlaces
operations_have_places_lem n items = every.operations_have_places (frame n) items (calm_kept n items)

pub write_strongly_linearizable_lem : WriteStronglyLinearizable
write_strongly_linearizable_lem n =
    write_strongly_linearizable_by_points listing_b (square n) None 46
    (λ items short. every.linearization_points (frame n) items (calm_kept n items))

pub wait_free_lem : WaitFree
wait_free_lem n items = every.wait_free (frame n) items (calm_kept n items) _ (λ some. omega arith)

pub own_updates_are_seen_lem : OwnUpdatesAreSeen
own_updates_are_seen_lem n items =
    single.own_updates_are_seen (frame n) (λ i word is. is) items (calm_kept n items)
    (λ steady t short. (invariant n _ steady t short).size)

-- of a shape that fits, as it has a word for each process
pub runs_are_snapshots_lem : RunsAreSnapshots
runs_are_snapshots_lem s items shape fit =
    subst (λ (w : ℕ).
    IsSnapshotRun (bounds s) (record { source = listing_b; shape = record { n = s.n; w = w }; items = items }))
    (sym (eqb-true s.w s.n fit)) (every.snapshot (frame s.n) items (calm_kept s.n items) (s.n + 1) (omega arith))
