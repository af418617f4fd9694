-- The operations of the listing of one word stay in their order however a run goes on.
use Rattle.std.proofs.Common.{◌≡◌, ℕ, zero, suc, ◌<◌, ◌≤◌, Bool, true, false, List, [], ◌∷◌, ◌++◌, map, length}
use Rattle.std.proofs.Common.{refl, sym, ◌∙◌, ap, subst, arith, inl, inr, append_assoc}
use Rattle.std.proofs.Math.Nat.{eq-or-lt_of_le}
use Rattle.std.proofs.lemmas.List.{append-nil, map-append, take-append-le, get_or_append_left, length-append}
use Rattle.snap_runs.proofs.Common.{Counts, Item, Step, Op, Outcome, process_at, values, who, Run, state, item}
use Rattle.snap_semantics.specs.declared.process.Outcome.TheVariants as outcome
use Rattle.snap_semantics.specs.declared.process.Status.{Status}
use Rattle.snap_semantics.specs.declared.process.Status.TheVariants.{Busy}
use Rattle.snap_semantics.specs.Source.{Source}
use Rattle.snap_semantics.specs.State.{initial}
use Rattle.snap_semantics.specs.Run.{after}
use Rattle.snap_semantics.specs.Table.{done}
use Rattle.snap_runs.specs.Audit.{last_call}
use Rattle.snap_runs.specs.Operation.{Operation}
use Rattle.snap_runs.specs.Run.{outcome as outcome_at, run_of_items}
use Rattle.snap_strong.specs.StrongLinearization.{without_end, BeginsWith}
use Rattle.snap_strong.specs.OneWord.{one_word, shared_by, OneWordIsStronglyLinearizable}
use Rattle.snap_strong.proofs.OneWordItems.{is_first, started, booked}
use Rattle.snap_strong.proofs.OneWordChoice.{taken, linearizes}
use Rattle.snap_strong.proofs.Placed.{ended}

-- One list that begins with another, and that with a third.
begins_same : (os : List Operation) → BeginsWith os os
begins_same os = ([], sym (append-nil (map without_end os)))

begins_on : (os middle longer : List Operation) → BeginsWith middle os → BeginsWith longer middle → BeginsWith longer os
begins_on os middle longer h k = (
  h.0 ++ k.0,
  k.1 ∙ ap (λ y. y ++ k.0) h.1 ∙ append_assoc (map without_end os) h.0 k.0,
)

same_ended : (i e : ℕ) (os : List Operation) → map without_end (map (ended i e) os) ≡ map without_end os
same_ended i e [] = refl
same_ended i e (o ∷ os) = ap (λ y. without_end o ∷ y) (same_ended i e os)

begins_ended : (i e : ℕ) (os : List Operation) → BeginsWith (map (ended i e) os) os
begins_ended i e os = ([], same_ended i e os ∙ sym (append-nil (map without_end os)))

begins_started : (i c : ℕ) (now : List ℕ) (b : Bool) (op : Op) (os : List Operation) →
    BeginsWith (started i c now b op os) os
begins_started i c now true op os = (_, map-append without_end os _)
begins_started i c now false op os = begins_same os

begins_booked : (i c e : ℕ) (now : List ℕ) (out : Outcome) (status : Status) (os : List Operation) →
    BeginsWith (booked i c e now out status os) os
begins_booked i c e now (outcome.Answered view) status os = begins_ended i e os
begins_booked i c e now outcome.Finished status os = begins_ended i e os
begins_booked i c e now outcome.Stepped (Busy b) os = begins_started i c now (is_first b.line) b.op os
begins_booked i c e now _ _ os = begins_same os

begins_later : (r : Run) (t u : ℕ) → t ≤ u → BeginsWith (taken r u) (taken r t)
begins_later r t zero le = subst (λ k. BeginsWith [] (taken r k)) (let z : 0 ≡ t = omega arith in z) (begins_same [])
begins_later r t (suc u) le =
    elim (eq-or-lt_of_le le) [
      | inl same ↦ subst (λ k. BeginsWith (taken r (suc u)) (taken r k)) (sym same) (begins_same (taken r (suc u)))
      | inr less ↦ begins_on (taken r t) (taken r u) (taken r (suc u)) (begins_later r t u (omega arith))
          (begins_booked (who (item r (suc u))) (last_call r (who (item r (suc u))) u) (suc u)
          (values (state r u)) (outcome_at r (suc u))
          (process_at (state r u) (who (item r (suc u)))).status (taken r u))
    ]

-- A run that goes on is as it was up to there.
module _ (source : Source) (shape : Counts) (xs ys : List Item) where
  abbrev short : Run
  short = run_of_items source shape xs

  abbrev long : Run
  long = run_of_items source shape (xs ++ ys)

  same_state : (t : ℕ) → t ≤ length xs → state long t ≡ state short t
  same_state t le = ap (after source shape (initial source shape)) (take-append-le t xs ys le)

  same_item : (t : ℕ) → t < length xs → item long (suc t) ≡ item short (suc t)
  same_item t lt = get_or_append_left xs ys (Step 0) t lt

  same_outcome : (t : ℕ) → t < length xs → outcome_at long (suc t) ≡ outcome_at short (suc t)
  same_outcome t lt =
      ap (λ S. (done source shape S (item long (suc t))).1) (same_state t (omega arith))
      ∙ ap (λ x. (done source shape (state short t) x).1) (same_item t lt)

  same_call : (i t : ℕ) → t ≤ length xs → last_call long i t ≡ last_call short i t
  same_call i zero le = refl
  same_call i (suc t) le = cc (same_item t le, same_outcome t le, same_call i t (omega arith))

  pub same_taken : (t : ℕ) → t ≤ length xs → taken long t ≡ taken short t
  same_taken zero le = refl
  same_taken (suc t) le =
      let i = who (item short (suc t)) in
      cc (
        same_item t le,
        same_call i t (omega arith),
        same_state t (omega arith),
        same_outcome t le,
        same_taken t (omega arith),
      )

  pub stays : BeginsWith (taken long (length (xs ++ ys))) (taken short (length xs))
  stays =
      subst (BeginsWith (taken long (length (xs ++ ys)))) (same_taken (length xs) (omega arith))
      (begins_later long (length xs) (length (xs ++ ys)) (omega (arith, length-append xs ys)))

pub one_word_is_strongly_linearizable_lem : OneWordIsStronglyLinearizable
one_word_is_strongly_linearizable_lem n = (
  λ items. taken (run_of_items one_word (shared_by n) items) (length items),
  record {
    linearizes = λ items short fits. linearizes n items fits;
    stays = λ items more short fits. stays one_word (shared_by n) items more;
  },
)
