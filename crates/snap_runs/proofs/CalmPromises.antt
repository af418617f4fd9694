-- What every run without crashes promises, every run promises.
use Rattle.std.specs.Prelude.{◌≡◌, ℕ, zero, suc, ◌-◌, ◌<◌, ◌≤◌, true, length, Some, None, slice_set}
use Rattle.std.proofs.Common.{sym, ◌∙◌, ap, subst, arith, inl, inr}
use Rattle.snap_semantics.specs.declared.process.Status.{Status}
use Rattle.snap_semantics.specs.declared.process.Status.TheVariants.{Busy, Trapped}
use Rattle.snap_semantics.specs.Source.{Name}
use Rattle.snap_runs.proofs.Common.{Process, process_at, who, Run, IsValidRun, state, before, item}
use Rattle.snap_semantics.specs.State.{Locals, value_at}
use Rattle.snap_runs.specs.Scan.{own_steps}
use Rattle.snap_runs.specs.Update.{is_at, executes, PendingUpdate}
use Rattle.snap_runs.specs.Promises.{HasTrapped, NeverTraps, ChangesOnlyAt, WritesItsUpdate, WritesOnce, HavePoints}
use Rattle.snap_runs.specs.Promises.{CollectsAtMost, StepsAtMost, row_place, ObservedMove, MovesAreWrites}
use Rattle.snap_runs.specs.Promises.{CollectLines, ExecutesFor, IsUpdating, WritesWord, CleanReads}
use Rattle.snap_runs.specs.Promises.{PassedTestsAreClean, BorrowedViewsAreLent, OwnUpdatesAreSeen}
use Rattle.snap_runs.proofs.Calm.{calm, uncrashed, same_length, process_is, steady_of}
use Rattle.snap_runs.proofs.CalmItems.{values_same, locals_same, locals_before, who_same, executes_same}
use Rattle.snap_runs.proofs.CalmItems.{same_executions, same_collects, same_steps, at_executes, scan_to, finished_to}
use Rattle.snap_runs.proofs.CalmItems.{finished_from, done_to, done_from, updating_to, updating_from}
use Rattle.snap_runs.proofs.Steady.{Steady, fits_of}

trapped_too : (st : Status) → HasTrapped st → HasTrapped (uncrashed st)
trapped_too (Trapped c a) h = h
trapped_too _ h = absurd h

at_too : (line : ℕ) (st : Status) → is_at line st ≡ true → is_at line (uncrashed st) ≡ true
at_too line (Busy a) h = h
at_too line _ h = absurd (cc)

updating_too : (word : ℕ) (st : Status) → IsUpdating word st → IsUpdating word (uncrashed st)
updating_too word (Busy a) h = h
updating_too word _ h = absurd h

module _ (r : Run) where
  -- a promise of runs without crashes
  abbrev pub OfCalm : (Run → Type 0) → Type 0
  OfCalm Promise = Steady (calm r) → Promise (calm r)

  abbrev fits_calm : IsValidRun r → IsValidRun (calm r)
  fits_calm fits = fits_of (calm r) (steady_of r fits)

  short : (t : ℕ) → t ≤ length r.items → t ≤ length (calm r).items
  short t h = subst (λ k. t ≤ k) (sym (same_length r)) h

  pub never_traps : OfCalm NeverTraps → NeverTraps r
  never_traps p fits i t one h trapped =
      p (steady_of r fits) (fits_calm fits) i t one (short t h)
      (subst (λ (q : Process). HasTrapped q.status) (sym (process_is r t i))
      (trapped_too (process_at (state r t) i).status trapped))

  pub changes_only_at : (line : ℕ) → OfCalm (ChangesOnlyAt line) → ChangesOnlyAt line r
  changes_only_at line p fits t h =
      elim (p (steady_of r fits) (fits_calm fits) t (short (suc t) h)) [
        | inl same ↦ inl (sym (values_same r (suc t)) ∙ same ∙ values_same r t)
        | inr ex ↦
            inr (sym (executes_same r fits (who (item r (suc t))) line t h)
            ∙ subst (λ i. executes (calm r) i line (suc t) ≡ true) (who_same r fits t h) ex)
      ]

  pub writes_its_update : (line : ℕ) → OfCalm (WritesItsUpdate line) → WritesItsUpdate line r
  writes_its_update line p fits i t one h ex =
      let x =
      p (steady_of r fits) (fits_calm fits) i t one (short (suc t) h) (executes_same r fits i line t h ∙ ex) in (
        x.0,
        x.1,
        x.2,
        updating_from r fits i x.0 x.1 x.2 (suc t) x.3,
        x.4,
        x.5,
        sym (values_same r (suc t)) ∙ x.6 ∙ ap (λ vs. slice_set vs (x.0 - 1) x.1) (values_same r t),
      )

  pub writes_once : (line : ℕ) → OfCalm (WritesOnce line) → WritesOnce line r
  writes_once line p fits i word value c e up =
      let x = p (steady_of r fits) (fits_calm fits) i word value c e (updating_to r fits i word value c e up) in
      let same = same_executions r fits i line c e up.last in (
        subst (λ y. y ≤ 1) same x.0,
        λ lt done. sym same ∙ x.1 lt (done_to r fits i e (omega arith) up.last done),
      )

  pub have_points : OfCalm HavePoints → HavePoints r
  have_points p fits i link c e view f =
      let x = p (steady_of r fits) (fits_calm fits) i link c e view (finished_to r fits i link c e view f) in
      (x.0, x.1, x.2, sym (values_same r x.0) ∙ x.3)

  pub collects_at_most : (most : ℕ) → OfCalm (CollectsAtMost most) → CollectsAtMost most r
  collects_at_most most p fits i link c e scan =
      subst (λ y. y ≤ most) (same_collects r fits i c e scan.last)
      (p (steady_of r fits) (fits_calm fits) i link c e (scan_to r fits i link c e scan))

  pub steps_at_most : (most : ℕ) → OfCalm (StepsAtMost most) → StepsAtMost most r
  steps_at_most most p fits i link c e scan =
      subst (λ y. y ≤ most) (same_steps r fits i c e scan.last)
      (p (steady_of r fits) (fits_calm fits) i link c e (scan_to r fits i link c e scan))

  -- the steps of an update
  abbrev pub UpdatesAtMost : ℕ → Run → Type 0
  UpdatesAtMost most x = (i word value c e : ℕ) → PendingUpdate x i word value c e → own_steps x i c e ≤ most

  pub updates_at_most : (most : ℕ) → OfCalm (UpdatesAtMost most) → IsValidRun r → UpdatesAtMost most r
  updates_at_most most p fits i word value c e up =
      subst (λ y. y ≤ most) (same_steps r fits i c e up.last)
      (p (steady_of r fits) i word value c e (updating_to r fits i word value c e up))

  -- a move that a scan sees
  pub observed_to : IsValidRun r → (line : ℕ) (row : Name) (i j t : ℕ) → 0 < t → t ≤ length r.items →
      ObservedMove r line row i j t → ObservedMove (calm r) line row i j t
  observed_to fits line row i j t pos h move = record {
    process = move.process;
    executed = at_executes r fits i line t pos h ∙ move.executed;
    grows =
        subst (λ (l : Locals). row_place l row j < row_place (process_at (state (calm r) t) i).locals row j)
        (sym (locals_before r t i))
        (subst (λ (l : Locals). row_place (process_at (before r t) i).locals row j < row_place l row j)
        (sym (locals_same r t i)) move.grows);
  }

  pub moves_are_writes : (raises : ℕ) (row : Name) (writes : ℕ) → OfCalm (MovesAreWrites raises row writes) →
      MovesAreWrites raises row writes r
  moves_are_writes raises row writes p fits i j link c t scan lt move =
      let w =
      p (steady_of r fits) (fits_calm fits) i j link c t (scan_to r fits i link c t scan) lt
      (observed_to fits raises row i j t (omega arith) scan.last move) in
      record {
        item = w.item;
        after_start = w.after_start;
        before_move = w.before_move;
        executed = sym (at_executes r fits j writes w.item (omega arith) (omega arith)) ∙ w.executed;
        recent = subst (λ y. y ≤ 1) (same_collects r fits i w.item t scan.last) w.recent;
      }

  -- a passed test
  executes_for : IsValidRun r → (i line : ℕ) (scalar : Name) (k t : ℕ) → 0 < t → t ≤ length r.items →
      ExecutesFor (calm r) i line scalar k t → ExecutesFor r i line scalar k t
  executes_for fits i line scalar k t pos h x = (
    sym (at_executes r fits i line t pos h) ∙ x.0,
    sym (ap (λ (l : Locals). value_at scalar l.scalars 0) (locals_before r t i)) ∙ x.1,
  )

  writes_word : IsValidRun r → (line k t : ℕ) → 0 < t → t ≤ length r.items →
      WritesWord r line k t → WritesWord (calm r) line k t
  writes_word fits line k zero pos h w = absurd (omega arith)
  writes_word fits line k (suc t) pos h w = (
    w.0,
    w.1,
    at_executes r fits w.0 line (suc t) pos h ∙ w.2,
    subst (λ (q : Process). IsUpdating k q.status) (sym (process_is r t w.0))
        (updating_too k (process_at (state r t) w.0).status w.3),
  )

  clean_reads : IsValidRun r → (lines : CollectLines) (writes i c t middle k : ℕ) → t ≤ length r.items →
      CleanReads (calm r) lines writes i c t middle k → CleanReads r lines writes i c t middle k
  clean_reads fits lines writes i c t middle k last x =
      record {
        first = x.first;
        second = x.second;
        reads_first = executes_for fits i lines.first lines.scalar k x.first (omega arith) (omega arith) x.reads_first;
        reads_second =
            executes_for fits i lines.second lines.scalar k x.second (omega arith) (omega arith) x.reads_second;
        after_start = x.after_start;
        recent = subst (λ y. y ≤ 1) (same_collects r fits i x.first t last) x.recent;
        before_middle = x.before_middle;
        after_middle = x.after_middle;
        before_test = x.before_test;
        unwritten = λ u lt less w. x.unwritten u lt less (writes_word fits writes k u (omega arith) (omega arith) w);
      }

  pub passed_tests_are_clean : (lines : CollectLines) (writes : ℕ) → OfCalm (PassedTestsAreClean lines writes) →
      PassedTestsAreClean lines writes r
  passed_tests_are_clean lines writes p fits i link c t scan lt ex to =
      let x =
      p (steady_of r fits) (fits_calm fits) i link c t (scan_to r fits i link c t scan) lt
      (at_executes r fits i lines.test t (omega arith) scan.last ∙ ex)
      (ap (λ (q : Process). is_at lines.passed q.status) (process_is r t i)
      ∙ at_too lines.passed (process_at (state r t) i).status to) in
      (x.0, λ k one. clean_reads fits lines writes i c t x.0 k scan.last (x.1 k one))

  pub borrowed_views_are_lent : (line : ℕ) → OfCalm (BorrowedViewsAreLent line) → BorrowedViewsAreLent line r
  borrowed_views_are_lent line p fits i link c e view f ex =
      let x =
      p (steady_of r fits) (fits_calm fits) i link c e view (finished_to r fits i link c e view f)
      (at_executes r fits i line e (omega arith) f.scan.last ∙ ex) in
      record {
        lender = x.lender;
        other = x.other;
        link = x.link;
        from = x.from;
        to = x.to;
        after_start = x.after_start;
        before_end = x.before_end;
        scan = finished_from r fits x.lender (Some x.link) x.from x.to view x.scan;
      }

  pub own_updates_are_seen : OfCalm OwnUpdatesAreSeen → OwnUpdatesAreSeen r
  own_updates_are_seen p fits i word value called ended c e view up lt is_done after none f =
      p (steady_of r fits) (fits_calm fits) i word value called ended c e view
      (updating_to r fits i word value called ended up) lt
      (done_to r fits i ended (omega arith) up.last is_done) after
      (λ t more less d. none t more less (done_from r fits i t (omega arith) (omega arith) d))
      (finished_to r fits i None c e view f)
