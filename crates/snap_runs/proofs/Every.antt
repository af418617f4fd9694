-- The promises of every run of a listing that has a `Frame`, from what its runs without crashes keep.
use Rattle.std.proofs.Common.{◌≡◌, ℕ, zero, suc, ◌+◌, ◌<◌, ◌≤◌, List, Option, Some, arith}
use Rattle.snap_runs.proofs.Common.{Item, Run}
use Rattle.snap_runs.specs.Linearization.{IsLinearizable}
use Rattle.snap_runs.specs.LinearizationPoints.{HasLinearizationPoints}
use Rattle.snap_runs.specs.Placement.{OperationsHavePlaces}
use Rattle.snap_runs.specs.Promises as promises
use Rattle.snap_runs.specs.Promises.{LentView, CollectLines}
use Rattle.snap_runs.specs.Scan.{FinishedScan, double_collects, own_steps}
use Rattle.snap_runs.specs.Snapshot.{IsSnapshotRun}
use Rattle.snap_runs.specs.WaitFree.{IsWaitFree}
use Rattle.snap_runs.proofs.Algorithm.{Algorithm}
use Rattle.snap_runs.proofs.Audits.{verdicts_have_points}
use Rattle.snap_runs.proofs.Bounds as bounds
use Rattle.snap_runs.proofs.Calm.{calm, calm_list}
use Rattle.snap_runs.proofs.CalmPromises as of_calm
use Rattle.snap_runs.proofs.CleanTests as clean
use Rattle.snap_runs.proofs.Collecting.{Copies}
use Rattle.snap_runs.proofs.Embedding as embed
use Rattle.snap_runs.proofs.Flow.{Lines}
use Rattle.snap_runs.proofs.Linear.{linearizable_by_points, with_all_points}
use Rattle.snap_runs.proofs.Placing.{placed_by_points}
use Rattle.snap_runs.proofs.Points as points
use Rattle.snap_runs.proofs.Steady.{Steady}
use Rattle.snap_runs.proofs.UpdateSteps as updates
use Rattle.snap_runs.proofs.WaitFree as wait_freedom
use Rattle.snap_runs.proofs.WordWrites as word_writes
use Rattle.snap_runs.proofs.ListingFrame.{Frame, Kept, execution, Returned, returned, Counts, Collects}

module _ {V P M : Type 0} {a : Algorithm V P M} {lines : Lines V P M} {line : ℕ} (frame : Frame a lines line)
    (items : List Item) where
  abbrev pub r : Run
  r = embed.run_of a items

  -- the items of the run without crashes
  abbrev pub calmed : List Item
  calmed = calm_list r

  module _ (kept : Steady (calm r) → Kept frame calmed) where
    pub never_traps : promises.NeverTraps r
    never_traps =
        of_calm.never_traps r (λ steady whole. embed.never_traps a calmed (kept steady).fits (kept steady).does)

    pub changes_only_at : promises.ChangesOnlyAt line r
    changes_only_at =
        of_calm.changes_only_at r line
        (λ steady. word_writes.changes_only_at a lines line frame.writer (execution frame calmed (kept steady)))

    pub writes_its_update : promises.WritesItsUpdate line r
    writes_its_update =
        of_calm.writes_its_update r line
        (λ steady. word_writes.writes_its_update a lines line frame.writer (execution frame calmed (kept steady))
        (kept steady).updates frame.once frame.numbered frame.writer_is)

    pub writes_once : promises.WritesOnce line r
    writes_once =
        of_calm.writes_once r line
        (λ steady. word_writes.once_in_update a lines line frame.writer (execution frame calmed (kept steady))
        (kept steady).updates frame.once frame.numbered frame.writer_is)

    pub calm_has_points : of_calm.OfCalm r promises.HavePoints
    calm_has_points steady =
        points.have_points a lines line frame.writer frame.listed (execution frame calmed (kept steady))
        (kept steady).held

    pub have_points : promises.HavePoints r
    have_points = of_calm.have_points r calm_has_points

    pub few_collects : promises.CollectsAtMost frame.collects r
    few_collects =
        of_calm.collects_at_most r frame.collects
        (λ steady. bounds.collects_at_most a lines frame.listed (execution frame calmed (kept steady)) frame.collects
        frame.steps (λ t i. (kept steady).within t i))

    -- a bound on double collects is one wherever it is smaller than another number
    pub fewer_collects : (most : ℕ) → frame.collects ≤ most → promises.CollectsAtMost most r
    fewer_collects most more fits i link c e scan =
        let few : double_collects r i c e ≤ frame.collects = few_collects fits i link c e scan in omega arith

    pub few_steps : promises.StepsAtMost frame.steps r
    few_steps =
        of_calm.steps_at_most r frame.steps
        (λ steady. bounds.steps_at_most a lines frame.listed (execution frame calmed (kept steady)) frame.collects
        frame.steps (λ t i. (kept steady).within t i))

    -- each operation has its linearization point
    pub linearization_points : HasLinearizationPoints line r
    linearization_points = with_all_points line r changes_only_at writes_its_update writes_once have_points

    pub linearizable : IsLinearizable r
    linearizable = linearizable_by_points line r linearization_points

    pub operations_have_places : OperationsHavePlaces line r
    operations_have_places = placed_by_points line r linearization_points

    -- the steps of an update
    update_steps : of_calm.OfCalm r (of_calm.UpdatesAtMost r (frame.update_steps.total + frame.steps))
    update_steps steady i word value c e up =
        let k = kept steady in
        updates.update_steps a lines (execution frame calmed k) frame.update_steps frame.steps i up.process
        (λ t word value l lt there. k.nearer t i word value l lt up.process there)
        (λ word value m p l is. frame.resumes i word value m p l is)
        (λ t d l le there inside. (k.within t i d l le up.process there inside).1)
        frame.begins word value c e up

    pub wait_free : (most : ℕ) → (0 < a.shape.n → frame.update_steps.total + frame.steps ≤ most) → IsWaitFree frame.steps most r
    wait_free most more =
        wait_freedom.wait_free frame.steps most r never_traps few_steps
        (λ fits i word value c e up.
        let few : own_steps r i c e ≤ frame.update_steps.total + frame.steps =
        of_calm.updates_at_most r (frame.update_steps.total + frame.steps) update_steps fits i word value c e up in
        let le : frame.update_steps.total + frame.steps ≤ most = more (omega arith) in omega arith)

    -- all that a snapshot promises
    pub snapshot : (most : ℕ) → frame.collects ≤ most →
        IsSnapshotRun (record { writes = line; collects = most; sharp = frame.collects; steps = frame.steps }) r
    snapshot most more = record {
      never_traps = never_traps;
      changes_only_at = changes_only_at;
      writes_its_update = writes_its_update;
      writes_once = writes_once;
      have_points = have_points;
      verdicts_have_points = verdicts_have_points r have_points;
      few_collects = fewer_collects most more;
      sharp_collects = few_collects;
      few_steps = few_steps;
      linearizable = linearizable;
    }

    -- A view that is returned at this line has been lent, where it has in the run without crashes.
    pub borrowed_views_are_lent : (at_line : ℕ) (there : P) → frame.numbered.counter_with at_line ≡ Some there →
        (Steady (calm r) → (i : ℕ) (link : Option ℕ) (c t : ℕ) (view : List ℕ) →
        FinishedScan (calm r) i link c (suc t) view → Returned frame calmed there i c t view →
        LentView (calm r) i c (suc t) view) →
        promises.BorrowedViewsAreLent at_line r
    borrowed_views_are_lent at_line there is lent = of_calm.borrowed_views_are_lent r at_line in_calm
      where
        in_calm : of_calm.OfCalm r (promises.BorrowedViewsAreLent at_line)
        in_calm steady whole i link c zero view ends ex = absurd (omega arith)
        in_calm steady whole i link c (suc t) view ends ex =
            lent steady i link c t view ends
            (returned frame calmed (kept steady) at_line there is i link c t view ends ex)

    -- A test that passes is clean, where no write keeps the count of its word and the lines collect the words.
    pub passed_tests_are_clean : (names : CollectLines) (copies : Copies V P M) (test : P) →
        (counts : (steady : Steady (calm r)) → Counts frame calmed (kept steady)) →
        ((steady : Steady (calm r)) → Collects frame calmed (kept steady) (counts steady) copies names test) →
        promises.PassedTestsAreClean names line r
    passed_tests_are_clean names copies test counts collects = of_calm.passed_tests_are_clean r names line in_calm
      where
        in_calm : of_calm.OfCalm r (promises.PassedTestsAreClean names line)
        in_calm steady whole i link c zero scan lt ex to = absurd (omega arith)
        in_calm steady whole i link c (suc t) scan lt ex to =
            let k = kept steady in
            clean.passed_test a lines line frame.writer frame.listed (execution frame calmed k) k.updates frame.numbered
            frame.writer_is (counts steady) copies names test (collects steady) i scan.process link c t scan
            (omega arith) ex to
