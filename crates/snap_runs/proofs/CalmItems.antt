-- What the items of a run with crashes do, they do in the same run without crashes: starts and ends of scans and
-- updates, lines that are executed, and counts.
use Rattle.std.proofs.Common.{◌≡◌, ℕ, zero, suc, ◌<◌, ◌≤◌, ◌⊎◌, Bool, true, false, ◌&&◌, List, length, Option, Some}
use Rattle.std.proofs.Common.{None, refl, sym, ◌∙◌, ap, subst, arith, inl, inr}
use Rattle.snap_runs.proofs.Common.{Counts, Activity, Item, Step, Call, Crash, Scan, Update, Outcome, Process}
use Rattle.snap_runs.proofs.Common.{process_at, values, who, Run, IsValidRun, state, before, item, outcome}
use Rattle.snap_semantics.specs.declared.process.Outcome.TheVariants as outcomes
use Rattle.snap_semantics.specs.declared.process.Reason.TheVariants as reason
use Rattle.snap_semantics.specs.declared.process.Status.{Status}
use Rattle.snap_semantics.specs.declared.process.Status.TheVariants.{Crashed}
use Rattle.snap_semantics.specs.Source.{Source}
use Rattle.snap_runs.specs.Run.{run_of_items}
use Rattle.snap_runs.specs.Scan.{line_in, link_in, IsCallLine, ReturnsView, Starts, Ends, PendingScan, FinishedScan}
use Rattle.snap_runs.specs.Scan.{count, steps, is_if_all, is_stepped, is_not_skipped, ends_double_collect, takes_step}
use Rattle.snap_runs.specs.Scan.{double_collects, own_steps}
use Rattle.snap_runs.specs.Update.{is_at, goes_on, executes, IsDone, PendingUpdate}
use Rattle.snap_runs.proofs.Calm.{IsDead, calm, calm_list, same_length, state_is, process_is, Kept, Paused}
use Rattle.snap_runs.proofs.Calm.{kept_or_paused}
use Rattle.snap_runs.proofs.Computing.{same_number, same_from, and_when}
use Rattle.snap_runs.proofs.Executing.{step_of}
use Rattle.snap_runs.proofs.WaitFree.{same_counts}

never : (b x : Bool) → (b ≡ true → x ≡ false) → (b && x) ≡ false
never true x h = h refl
never false x h = refl

-- What is told of an item: of the item, of what came of it, and of a process before and after it.
abbrev Telling : Type 1
Telling = Item → Outcome → Process → Process → Type 0

abbrev Told : Telling → Run → ℕ → ℕ → Type 0
Told Holds r i t = Holds (item r t) (outcome r t) (process_at (before r t) i) (process_at (state r t) i)

-- an item of which something came: it is not skipped, and no crash
abbrev HasEffect : Outcome → Type 0
HasEffect (outcomes.Skipped why) = ⊥
HasEffect outcomes.Crashed = ⊥
HasEffect _ = Unit {0}

-- It is told of no item but of process i, of which something came, or which is a step of a process that has not crashed.
abbrev IsOf : ℕ → Telling → Type 0
IsOf i Holds = (y : Item) (o : Outcome) (p q : Process) → Holds y o p q →
    (who y ≡ i) × (HasEffect o ⊎ ((y ≡ Step i) × ((was : Option Activity) → p.status ≡ Crashed was → ⊥)))

-- what is told of an item of one run is told of it in another one
abbrev Tells : Run → Run → Type 1
Tells r r' = (Holds : Telling) (i t : ℕ) → IsOf i Holds → 0 < t → t ≤ length r.items → Told Holds r i t → Told Holds
    r' i t

-- scans and updates start and end at the same items then
module _ (s : Source) (shape : Counts) (xs ys : List Item)
    (to : Tells (run_of_items s shape xs) (run_of_items s shape ys)) where
  starts_over : (i : ℕ) (link : Option ℕ) (t : ℕ) → 0 < t → t ≤ length xs →
      Starts (run_of_items s shape xs) i t link → Starts (run_of_items s shape ys) i t link
  starts_over i None t =
      to (λ y o p q. (y ≡ Call i Scan) × (o ≡ outcomes.Called)) i t
      (λ y o p q h. (ap who h.0, inl (subst HasEffect (sym h.1) tt)))
  starts_over i (Some k) t =
      to (λ y o p q. (y ≡ Step i) × IsCallLine (line_in s p.status) × (o ≡ outcomes.Stepped)
      × (link_in q.status ≡ Some k)) i t (λ y o p q h. (ap who h.0, inl (subst HasEffect (sym h.2) tt)))

  ends_over : (i : ℕ) (link : Option ℕ) (view : List ℕ) (t : ℕ) → 0 < t → t ≤ length xs →
      Ends (run_of_items s shape xs) i t link view → Ends (run_of_items s shape ys) i t link view
  ends_over i None view t =
      to (λ y o p q. (who y ≡ i) × (o ≡ outcomes.Answered view)) i t
      (λ y o p q h. (h.0, inl (subst HasEffect (sym h.1) tt)))
  ends_over i (Some k) view t =
      to (λ y o p q. (y ≡ Step i) × ReturnsView (line_in s p.status) p.locals view × (link_in p.status ≡ Some k)) i t
      (λ y o p q h. (
        ap who h.0,
        inr (h.0, λ was is. let e : ◌≡◌ {A = Option ℕ} None (Some k) = sym (ap link_in is) ∙ h.2 in cc),
      ))

  done_over : (i t : ℕ) → 0 < t → t ≤ length xs →
      IsDone (run_of_items s shape xs) i t → IsDone (run_of_items s shape ys) i t
  done_over i t =
      to (λ y o p q. (who y ≡ i) × (o ≡ outcomes.Finished)) i t
      (λ y o p q h. (h.0, inl (subst HasEffect (sym h.1) tt)))

module _ (s : Source) (shape : Counts) (xs ys : List Item) (same : length xs ≡ length ys)
    (to : Tells (run_of_items s shape xs) (run_of_items s shape ys))
    (back : Tells (run_of_items s shape ys) (run_of_items s shape xs)) where
  scan_over : (i : ℕ) (link : Option ℕ) (c e : ℕ) →
      PendingScan (run_of_items s shape xs) i link c e → PendingScan (run_of_items s shape ys) i link c e
  scan_over i link c e h = record {
    process = h.process;
    starts = starts_over s shape xs ys to i link c h.first (omega arith) h.starts;
    first = h.first;
    order = h.order;
    last = omega arith;
    goes_on = λ t view lt less ends.
        h.goes_on t view lt less (ends_over s shape ys xs back i link view t (omega arith) (omega arith) ends);
  }

  finished_over : (i : ℕ) (link : Option ℕ) (c e : ℕ) (view : List ℕ) →
      FinishedScan (run_of_items s shape xs) i link c e view → FinishedScan (run_of_items s shape ys) i link c e view
  finished_over i link c e view h = record {
    scan = scan_over i link c e h.scan;
    order = h.order;
    ends = ends_over s shape xs ys to i link view e (omega arith) h.scan.last h.ends;
  }

  updating_over : (i word value c e : ℕ) → PendingUpdate (run_of_items s shape xs) i word value c e →
      PendingUpdate (run_of_items s shape ys) i word value c e
  updating_over i word value c e h =
      let called =
      to (λ y o p q. (y ≡ Call i (Update word value)) × (o ≡ outcomes.Called)) i c
      (λ y o p q is. (ap who is.0, inl (subst HasEffect (sym is.1) tt))) h.first (omega arith) (h.call, h.called) in
      record {
        process = h.process;
        call = called.0;
        called = called.1;
        first = h.first;
        order = h.order;
        last = omega arith;
        goes_on = λ t lt less done.
            h.goes_on t lt less (done_over s shape ys xs back i t (omega arith) (omega arith) done);
      }

-- an item of a crashed process, where it is a step: it is skipped, and the process has crashed
dead_step : (f : ℕ → Status) (i : ℕ) (x : Item) (out : Outcome) → steps i x ≡ true → IsDead x out (f (who x)) →
    (out ≡ outcomes.Skipped reason.Crashed) × ((was : Option Activity) × (f i ≡ Crashed was))
dead_step f i (Step k) out h dead =
    (dead.0, subst (λ j. (was : Option Activity) × (f j ≡ Crashed was)) (same_from k i h) dead.1)
dead_step f i _ out h dead = absurd (cc)

-- nothing comes of a crash or of an item of a crashed process
no_effect : (x : Item) (out : Outcome) (st : Status) → IsDead x out st → HasEffect out → ⊥
no_effect (Step k) out st dead h = subst HasEffect dead.0 h
no_effect (Call k op) out st dead h = subst HasEffect dead h
no_effect (Crash k) out st (inl is) h = subst HasEffect is h
no_effect (Crash k) out st (inr is) h = subst HasEffect is.1 h

module _ (r : Run) where
  pub values_same : (t : ℕ) → values (state (calm r) t) ≡ values (state r t)
  values_same t = ap values (state_is r t)

  pub locals_same : (t i : ℕ) → (process_at (state (calm r) t) i).locals ≡ (process_at (state r t) i).locals
  locals_same t i = ap (λ (p : Process). p.locals) (process_is r t i)

  pub locals_before : (t i : ℕ) → (process_at (before (calm r) t) i).locals ≡ (process_at (before r t) i).locals
  locals_before zero i = locals_same zero i
  locals_before (suc t) i = locals_same t i

  module _ (fits : IsValidRun r) where
    abbrev status : ℕ → ℕ → Status
    status t i = (process_at (state r t) i).status

    -- how the process of a step stands before it
    stands_before : (t i : ℕ) → Kept r t → who (item r (suc t)) ≡ i →
        process_at (state (calm r) t) i ≡ process_at (state r t) i
    stands_before t i k mine = subst (λ j. process_at (state (calm r) t) j ≡ process_at (state r t) j) mine k.before

    dead_at : (t i : ℕ) → Paused r t → steps i (item r (suc t)) ≡ true →
        (outcome r (suc t) ≡ outcomes.Skipped reason.Crashed) × ((was : Option Activity) × (status t i ≡ Crashed was))
    dead_at t i k h = dead_step (status t) i (item r (suc t)) (outcome r (suc t)) h k.dead

    pub who_same : (t : ℕ) → t < length r.items → who (item (calm r) (suc t)) ≡ who (item r (suc t))
    who_same t h =
        elim (kept_or_paused r fits t h) [
          | inl k ↦ ap who k.item_is
          | inr k ↦ ap who k.item_is
        ]

    -- a test of the steps of a process, which fails where it has crashed
    test_same : (test : Status → Outcome → Bool) →
        ((was : Option Activity) → test (Crashed was) (outcomes.Skipped reason.Crashed) ≡ false) →
        (i t : ℕ) → t < length r.items →
        (steps i (item (calm r) (suc t)) && test (process_at (state (calm r) t) i).status (outcome (calm r) (suc t)))
        ≡ (steps i (item r (suc t)) && test (status t i) (outcome r (suc t)))
    test_same test none i t h =
        let calm_one = test (process_at (state (calm r) t) i).status (outcome (calm r) (suc t)) in
        let mine = steps i (item r (suc t)) in
        elim (kept_or_paused r fits t h) [
          | inl k ↦ ap (λ y. steps i y && calm_one) k.item_is
              ∙ and_when mine calm_one (test (status t i) (outcome r (suc t)))
              (λ his. ap (λ (p : Process). test p.status (outcome (calm r) (suc t)))
              (stands_before t i k (ap who (step_of i (item r (suc t)) his))) ∙ ap (test (status t i)) k.outcome_is)
          | inr k ↦ ap (λ y. steps i y && calm_one) k.item_is
              ∙ sym (never mine (test (status t i) (outcome r (suc t)))
              (λ his. let dead = dead_at t i k his in
              ap (test (status t i)) dead.0 ∙ ap (λ st. test st (outcomes.Skipped reason.Crashed)) dead.1.1
              ∙ none dead.1.0))
        ]

    pub executes_same : (i line t : ℕ) → t < length r.items →
        executes (calm r) i line (suc t) ≡ executes r i line (suc t)
    executes_same i line = test_same (λ st o. is_at line st && goes_on o) (λ was. refl) i

    -- tests that agree at each item count the same
    same_count : (f g : ℕ → Bool) → ((t : ℕ) → t < length r.items → f (suc t) ≡ g (suc t)) → (c e : ℕ) →
        e ≤ length r.items → count f c e ≡ count g c e
    same_count f g agree c e le = same_counts f g c e (λ t lt upto. at_item t lt (omega arith))
      where
        at_item : (t : ℕ) → c < t → t ≤ length r.items → f t ≡ g t
        at_item zero lt upto = absurd (omega arith)
        at_item (suc t) lt upto = agree t (omega arith)

    pub same_executions : (i line c e : ℕ) → e ≤ length r.items →
        count (executes (calm r) i line) c e ≡ count (executes r i line) c e
    same_executions i line c e le =
        same_count (executes (calm r) i line) (executes r i line) (executes_same i line) c e le

    pub same_collects : (i c e : ℕ) → e ≤ length r.items → double_collects (calm r) i c e ≡ double_collects r i c e
    same_collects i c e le =
        same_count (ends_double_collect (calm r) i) (ends_double_collect r i)
        (test_same (λ st o. is_if_all (line_in r.source st) && is_stepped o) (λ was. refl) i) c e le

    pub same_steps : (i c e : ℕ) → e ≤ length r.items → own_steps (calm r) i c e ≡ own_steps r i c e
    same_steps i c e le =
        same_count (takes_step (calm r) i) (takes_step r i)
        (test_same (λ st o. is_not_skipped o) (λ was. refl) i) c e le

    pub at_executes : (i line t : ℕ) → 0 < t → t ≤ length r.items → executes (calm r) i line t ≡ executes r i line t
    at_executes i line zero pos h = absurd (omega arith)
    at_executes i line (suc t) pos h = executes_same i line t (omega arith)

    -- what is told of an item that is the same without the crashes
    told_alike : (Holds : Telling) (i t : ℕ) → Kept r t → who (item r (suc t)) ≡ i →
        Told Holds (calm r) i (suc t) ≡ Told Holds r i (suc t)
    told_alike Holds i t k mine =
        let later = subst (λ j. process_at (state (calm r) (suc t)) j ≡ process_at (state r (suc t)) j) mine k.later in
        λ j. Holds (k.item_is j) (k.outcome_is j) (stands_before t i k mine j) (later j)

    told_to : Tells r (calm r)
    told_to Holds i zero of pos le h = absurd (omega arith)
    told_to Holds i (suc t) of pos le h =
        let its = of (item r (suc t)) (outcome r (suc t)) (process_at (state r t) i) _ h in
        elim (kept_or_paused r fits t (omega arith)) [
          | inl k ↦ subst (λ (A : Type 0). A) (sym (told_alike Holds i t k its.0)) h
          | inr k ↦ absurd (elim its.1 [
            | inl effect ↦ no_effect (item r (suc t)) (outcome r (suc t)) (status t (who (item r (suc t)))) k.dead
                effect
            | inr step ↦
                (let dead = dead_at t i k (ap (steps i) step.0 ∙ same_number i) in step.1 dead.1.0 dead.1.1)
          ])
        ]

    told_back : Tells (calm r) r
    told_back Holds i zero of pos le h = absurd (omega arith)
    told_back Holds i (suc t) of pos le h =
        let its = of (item (calm r) (suc t)) (outcome (calm r) (suc t)) (process_at (state (calm r) t) i) _ h in
        elim (kept_or_paused r fits t (omega (arith, same_length r))) [
          | inl k ↦
              subst (λ (A : Type 0). A) (told_alike Holds i t k (ap who (sym k.item_is) ∙ its.0)) h
          | inr k ↦ absurd (elim its.1 [
            | inl effect ↦ subst HasEffect k.outcome_is effect
            | inr step ↦ (let e = sym k.item_is ∙ step.0 in cc)
          ])
        ]

    -- scans and updates start and end at the same items without the crashes
    pub scan_to : (i : ℕ) (link : Option ℕ) (c e : ℕ) → PendingScan r i link c e → PendingScan (calm r) i link c e
    scan_to = scan_over r.source r.shape r.items (calm_list r) (sym (same_length r)) told_to told_back

    pub finished_to : (i : ℕ) (link : Option ℕ) (c e : ℕ) (view : List ℕ) → FinishedScan r i link c e view →
        FinishedScan (calm r) i link c e view
    finished_to = finished_over r.source r.shape r.items (calm_list r) (sym (same_length r)) told_to told_back

    pub finished_from : (i : ℕ) (link : Option ℕ) (c e : ℕ) (view : List ℕ) → FinishedScan (calm r) i link c e view →
        FinishedScan r i link c e view
    finished_from = finished_over r.source r.shape (calm_list r) r.items (same_length r) told_back told_to

    pub done_to : (i t : ℕ) → 0 < t → t ≤ length r.items → IsDone r i t → IsDone (calm r) i t
    done_to = done_over r.source r.shape r.items (calm_list r) told_to

    pub done_from : (i t : ℕ) → 0 < t → t ≤ length r.items → IsDone (calm r) i t → IsDone r i t
    done_from i t pos h =
        done_over r.source r.shape (calm_list r) r.items told_back i t pos (omega (arith, same_length r))

    pub updating_to : (i word value c e : ℕ) → PendingUpdate r i word value c e →
        PendingUpdate (calm r) i word value c e
    updating_to = updating_over r.source r.shape r.items (calm_list r) (sym (same_length r)) told_to told_back

    pub updating_from : (i word value c e : ℕ) → PendingUpdate (calm r) i word value c e →
        PendingUpdate r i word value c e
    updating_from = updating_over r.source r.shape (calm_list r) r.items (same_length r) told_back told_to
