-- Write strong linearizability by points: a run is, up to an item, what it is
-- in every longer run, and so the updates that it has written come first there.
use Rattle.std.proofs.Common.{◌≡◌, ℕ, zero, suc, ◌<◌, ◌≤◌, ◌⊎◌, ◌&&◌, List, [], ◌∷◌, ◌++◌, length, Option, Some, None}
use Rattle.std.proofs.Common.{refl, sym, ◌∙◌, ap, subst, arith, inl, inr}
use Rattle.std.specs.List.{AllByRecursion}
use Rattle.std.proofs.lemmas.Bool.{cases_lt}
use Rattle.std.proofs.lemmas.List.{length-append, take-append-le, get_or_append_left}
use Rattle.snap_runs.proofs.Common.{Counts, IsOneOf, State, process_at, values, who, Item, Step, Run, IsValidRun, state}
use Rattle.snap_runs.proofs.Common.{before, item, outcome}
use Rattle.snap_semantics.specs.Source.{Source}
use Rattle.snap_semantics.specs.Run.{after}
use Rattle.snap_semantics.specs.State.{initial}
use Rattle.snap_semantics.specs.Table.{done}
use Rattle.snap_runs.specs.Run.{run_of_items}
use Rattle.snap_runs.specs.Scan.{steps}
use Rattle.snap_runs.specs.Update.{is_at, goes_on, executes, IsDone, PendingUpdate}
use Rattle.snap_runs.specs.Operation.{Operation}
use Rattle.snap_runs.specs.Linearization.{IsLinearization}
use Rattle.snap_runs.specs.LinearizationPoints.{HasLinearizationPoints}
use Rattle.snap_runs.specs.WriteStrong.{UpdateCall, updates, IsPrefix, IsWriteStrongChoice}
use Rattle.snap_runs.specs.WriteStrong.{WriteStronglyLinearizableByPoints, IsShorter}
use Rattle.snap_runs.proofs.Linear as linear
use Rattle.snap_runs.proofs.Written.{AddsAt, WrittenUpTo, same_written, earlier}

-- each item is of one of the processes, or some is of none
all_or_not : (n : ℕ) (items : List Item) →
    AllByRecursion (λ x. IsOneOf n (who x)) items ⊎ (AllByRecursion (λ x. IsOneOf n (who x)) items → ⊥)
all_or_not n [] = inl tt
all_or_not n (x ∷ items) =
    elim (all_or_not n items) [
      | inr not ↦ inr (λ h. not h.1)
      | inl rest ↦ elim (cases_lt 0 (who x)) [
        | inr none ↦ inr (λ h. let low : 0 < who x = h.0.0 in omega arith)
        | inl low ↦ elim (cases_lt n (who x)) [
          | inl above ↦ inr (λ h. let high : who x ≤ n = h.0.1 in omega arith)
          | inr high ↦ inl ((low, high), rest)
        ]
      ]
    ]

-- a run fits or not
fits_or_not : (r : Run) → IsValidRun r ⊎ (IsValidRun r → ⊥)
fits_or_not r =
    elim (all_or_not r.shape.n r.items) [
      | inr not ↦ inr (λ h. not h.all)
      | inl all ↦ inl (record { all = all })
    ]

-- items are short enough or not
shorter_or_not : (most : Option ℕ) (items : List Item) → IsShorter most items ⊎ (IsShorter most items → ⊥)
shorter_or_not None items = inl tt
shorter_or_not (Some most) items =
    elim (cases_lt (length items) most) [
      | inl less ↦ inl less
      | inr more ↦ inr (λ h. let less : length items < most = h in omega arith)
    ]

shorter_before : (most : Option ℕ) (items more : List Item) → IsShorter most (items ++ more) → IsShorter most items
shorter_before None items more h = tt
shorter_before (Some most) items more h =
    let less : length (items ++ more) < most = h in let both = length-append items more in omega arith

all_before : (P : Item → Type 0) (items more : List Item) → AllByRecursion P (items ++ more) → AllByRecursion P items
all_before P [] more h = tt
all_before P (x ∷ items) more h = (h.0, all_before P items more h.1)

module _ (source : Source) (shape : Counts) where
  fits_before : (items more : List Item) → IsValidRun (run_of_items source shape (items ++ more)) →
      IsValidRun (run_of_items source shape items)
  fits_before items more h = record {
    all = all_before (λ x. IsOneOf shape.n (who x)) items more h.all;
  }

  module _ (items more : List Item) where
    abbrev short : Run
    short = run_of_items source shape items

    abbrev long : Run
    long = run_of_items source shape (items ++ more)

    same_state : (t : ℕ) → t ≤ length items → state long t ≡ state short t
    same_state t le = ap (after source shape (initial source shape)) (take-append-le t items more le)

    same_before : (t : ℕ) → t ≤ length items → before long t ≡ before short t
    same_before zero le = same_state 0 le
    same_before (suc t) le = same_state t (omega arith)

    same_item : (t : ℕ) → t ≤ length items → item long t ≡ item short t
    same_item zero le = refl
    same_item (suc t) le = get_or_append_left items more (Step 0) t (omega arith)

    same_outcome : (t : ℕ) → t ≤ length items → outcome long t ≡ outcome short t
    same_outcome t le =
        ap (λ (S : State). (done source shape S (item long t)).1) (same_before t le)
        ∙ ap (λ (x : Item). (done source shape (before short t) x).1) (same_item t le)

    same_executes : (i line t : ℕ) → t ≤ length items → executes long i line t ≡ executes short i line t
    same_executes i line t le =
        ap (λ (x : Item). steps i x && (is_at line (process_at (before long t) i).status && goes_on (outcome long t)))
        (same_item t le)
        ∙ ap (λ (S : State). steps i (item short t) && (is_at line (process_at S i).status && goes_on (outcome long t)))
        (same_before t le)
        ∙ ap (λ o. steps i (item short t) && (is_at line (process_at (before short t) i).status && goes_on o))
        (same_outcome t le)

    same_done : (i t : ℕ) → t ≤ length items → IsDone long i t → IsDone short i t
    same_done i t le h = (sym (ap who (same_item t le)) ∙ h.0, sym (same_outcome t le) ∙ h.1)

    longer : (i word value c e : ℕ) → PendingUpdate short i word value c e → PendingUpdate long i word value c e
    longer i word value c e h =
        let both = length-append items more in
        record {
          process = h.process;
          call = same_item c (omega arith) ∙ h.call;
          called = same_outcome c (omega arith) ∙ h.called;
          first = h.first;
          order = h.order;
          last = omega arith;
          goes_on = λ t lt less is. h.goes_on t lt less (same_done i t (omega arith) is);
        }

    module _ (line : ℕ) where
      written_next : (t : ℕ) (past us : List UpdateCall) → t ≤ length items → AddsAt line short t past us →
          AddsAt line long t past us
      written_next t past us le (inl x) = inl (
        x.0,
        record {
          executed = same_executes x.0.process line t le ∙ x.1.executed;
          before_it = x.1.before_it;
          updating = longer x.0.process x.0.word x.0.value x.0.call t x.1.updating;
        },
        x.2,
      )
      written_next t past us le (inr x) = inr (λ i ex. x.0 i (sym (same_executes i line t le) ∙ ex), x.1)

      written : (t : ℕ) (us : List UpdateCall) → t ≤ length items → WrittenUpTo line short t us →
          WrittenUpTo line long t us
      written zero us le h = h
      written (suc t) us le h = (h.0, written t h.0 (omega arith) h.1, written_next (suc t) h.0 us le h.2)

      -- the updates that the short run has written come first
      first_written : IsValidRun long → (us all : List UpdateCall) → WrittenUpTo line short (length items) us →
          WrittenUpTo line long (length (items ++ more)) all → IsPrefix us all
      first_written fits us all h h' =
          let both = length-append items more in
          let x = earlier line long (length items) (length (items ++ more)) all (omega arith) h' in
          subst (λ l. IsPrefix l all)
          (same_written line long fits (length items) x.0 us x.1 (written (length items) us (omega arith) h)) x.2

  module _ (most : Option ℕ) where
    -- runs that the choice is about
    abbrev Covers : List Item → Type 0
    Covers items = IsShorter most items × IsValidRun (run_of_items source shape items)

    -- a run is one of them or not
    abbrev Decided : List Item → Type 0
    Decided items = Covers items ⊎ (Covers items → ⊥)

    decision : (items : List Item) → Decided items
    decision items =
        elim (shorter_or_not most items) [
          | inr never ↦ inr (λ c. never c.0)
          | inl enough ↦ elim (fits_or_not (run_of_items source shape items)) [
            | inr never ↦ inr (λ c. never c.1)
            | inl fits ↦ inl (enough, fits)
          ]
        ]

    module _ (line : ℕ)
        (points : (items : List Item) → IsShorter most items →
        HasLinearizationPoints line (run_of_items source shape items)) where
      -- the operations of a run by their points, with what holds of them
      abbrev Ordered : (items : List Item) → Covers items → List Operation → Type 0
      Ordered items c os =
          linear.OrderedUpTo line (run_of_items source shape items) c.1 (points items c.0) (suc (length items)) 0
          (values (state (run_of_items source shape items) (length items))) os
          × WrittenUpTo line (run_of_items source shape items) (length items) (updates os)

      ordered : (items : List Item) (c : Covers items) → (os : List Operation) × Ordered items c os
      ordered items c =
          let x =
          linear.ordered line (run_of_items source shape items) c.1 (points items c.0) (length items) (omega arith) in
          (x.0, (x.1, x.2))

      -- the choice: of any other run, none
      chosen : (items : List Item) → Decided items → List Operation
      chosen items (inl c) = (ordered items c).0
      chosen items (inr not) = []

      pub choose : List Item → List Operation
      choose items = chosen items (decision items)

      linearizes : (items : List Item) → Covers items → (d : Decided items) →
          IsLinearization (run_of_items source shape items) (chosen items d)
      unfolding chosen
      linearizes items h (inr not) = absurd (not h)
      linearizes items h (inl c) =
          let x = ordered items c in
          linear.is_linearization line (run_of_items source shape items) c.1 (points items c.0) x.0 x.1.0

      keeps_updates : (items more : List Item) → Covers (items ++ more) →
          (d : Decided items) (e : Decided (items ++ more)) →
          IsPrefix (updates (chosen items d)) (updates (chosen (items ++ more) e))
      unfolding chosen
      keeps_updates items more h (inr not) e =
          absurd (not (shorter_before most items more h.0, fits_before items more h.1))
      keeps_updates items more h (inl c) (inr not) = absurd (not h)
      keeps_updates items more h (inl c) (inl later) =
          let x = ordered items c in
          let y = ordered (items ++ more) later in
          first_written items more line later.1 (updates x.0) (updates y.0) x.1.1 y.1.1

      pub write_strong : IsWriteStrongChoice source shape most choose
      unfolding choose
      write_strong = record {
        linearizes = λ items enough fits. linearizes items (enough, fits) (decision items);
        keeps_updates =
            λ items more enough fits.
            keeps_updates items more (enough, fits) (decision items) (decision (items ++ more));
      }

pub write_strongly_linearizable_by_points : WriteStronglyLinearizableByPoints
write_strongly_linearizable_by_points source shape most line points =
    (choose source shape most line points, write_strong source shape most line points)
