-- Lists: what they contain, pairs of their elements, and the places of slots.
use Rattle.std.proofs.Common.{◌≡◌, ℕ, zero, suc, ◌<◌, ◌⊎◌, List, [], ◌∷◌, length, refl, sym, subst, ◌∙◌}
use Rattle.std.proofs.Common.{ap, inl, inr, arith, get_or, slice_index_or, slice_set, replicate, ◌≤◌}
use Rattle.std.proofs.Math.ListN.{set}
use Rattle.std.specs.List.{AllByRecursion, AllPairs, Contains}
use Rattle.std.proofs.lemmas.Bool.{cases_eq, cases_lt}
use Rattle.std.proofs.lemmas.List.{get_or_past, get_or-set_same, get_or-set_other, set_past}
use Rattle.std.proofs.lemmas.List.Elements.{recursion_from_All}
use Rattle.snap_runs.specs.Operation.{Operation}
use Rattle.snap_runs.specs.Linearization.{KeepsOrder}
use Rattle.snap_runs.proofs.Order.{Apart, Pairs}
use Rattle.snap_judge.specs.Steps.{Slot, Free}

pub contains_head : {X : Type 0} (x : X) (xs : List X) → Contains (x ∷ xs) x
contains_head x xs = (0, omega arith, refl)

pub contains_tail : {X : Type 0} (x y : X) (xs : List X) → Contains xs y → Contains (x ∷ xs) y
contains_tail x y xs h = let lt : h.0 < length xs = h.1 in (suc h.0, omega arith, h.2)

pub contains_cases : {X : Type 0} (x y : X) (xs : List X) → Contains (x ∷ xs) y → (x ≡ y) ⊎ Contains xs y
contains_cases {X} x y xs h = at h.0 h.1 h.2
  where
    at : (k : ℕ) → k < length (x ∷ xs) → slice_index_or (x ∷ xs) k y ≡ y → (x ≡ y) ⊎ Contains xs y
    at zero lt is = inl is
    at (suc k) lt is = inr (k, omega arith, is)

pub contains_none : {X : Type 0} (y : X) → Contains [] y → ⊥
contains_none y h = let lt : h.0 < 0 = h.1 in omega arith

-- What holds of all pairs holds of the first element and each later one.
pub pairs_head : {X : Type 0} (R : X → X → Type 0) (x y : X) (xs : List X) → AllPairs R (x ∷ xs) → Contains xs y → R x y
pairs_head R x y xs h has =
    let lt : has.0 < length xs = has.1 in
    subst (λ z. R x z) has.2 (h 0 (suc has.0) y (omega arith) (omega arith))

pub pairs_tail : {X : Type 0} (R : X → X → Type 0) (x : X) (xs : List X) → AllPairs R (x ∷ xs) → AllPairs R xs
pairs_tail R x xs h i j d lt short = h (suc i) (suc j) d (omega arith) (omega arith)

-- What holds of each element holds of one that the list contains.
pub each_contained : {X : Type 0} (P : X → Type 0) (y : X) (xs : List X) → AllByRecursion P xs → Contains xs y → P y
each_contained P y [] h has = absurd (contains_none y has)
each_contained P y (x ∷ xs) h has =
    elim (contains_cases x y xs has) [
      | inl same ↦ subst P same h.0
      | inr later ↦ each_contained P y xs h.1 later
    ]

pub each_weaker : {X : Type 0} (P Q : X → Type 0) (xs : List X) → ((x : X) → P x → Q x) →
    AllByRecursion P xs → AllByRecursion Q xs
each_weaker P Q [] gives h = tt
each_weaker P Q (x ∷ xs) gives h = (gives x h.0, each_weaker P Q xs gives h.1)

pub each_both : {X : Type 0} (P Q S : X → Type 0) (xs : List X) → ((x : X) → P x → Q x → S x) →
    AllByRecursion P xs → AllByRecursion Q xs → AllByRecursion S xs
each_both P Q S [] gives h g = tt
each_both P Q S (x ∷ xs) gives h g = (gives x h.0 g.0, each_both P Q S xs gives h.1 g.1)

-- the pairs of a list in which no call stands twice, and which is in order in time
pub pairs_apart : (os : List Operation) → AllPairs (λ (a b : Operation). a.call ≡ b.call → ⊥) os → KeepsOrder os →
    AllPairs Apart os
pairs_apart os once order i j d lt short =
    (once i j d lt short, λ ended. let back : j < i = order j i d short (omega arith) ended in omega arith)

pub pairs_by_recursion : (R : Operation → Operation → Type 0) (os : List Operation) → AllPairs R os → Pairs R os
pairs_by_recursion R [] h = tt
pairs_by_recursion R (o ∷ os) h = (
  recursion_from_All (R o) os (λ k d lt. h 0 (suc k) d (omega arith) (omega arith)),
  pairs_by_recursion R os (pairs_tail R o os h),
)

-- what stands at place k, once s stands at place j
pub set_cases : (slots : List Slot) (j k : ℕ) (s v : Slot) → j < length slots →
    slice_index_or (slice_set slots j s) k Free ≡ v →
    ((k ≡ j) × (s ≡ v)) ⊎ ((k ≡ j → ⊥) × (slice_index_or slots k Free ≡ v))
set_cases slots j k s v lt is =
    elim (cases_eq k j) [
      | inl same ↦ inl (
        same,
        sym (get_or-set_same slots j s Free lt)
            ∙ subst (λ y. slice_index_or (slice_set slots j s) y Free ≡ v) same is,
      )
      | inr other ↦ inr (other, sym (get_or-set_other slots j k s Free other) ∙ is)
    ]

pub set_same : (slots : List Slot) (j k : ℕ) (s : Slot) → j < length slots → k ≡ j →
    slice_index_or (slice_set slots j s) k Free ≡ s
set_same slots j k s lt same =
    subst (λ y. slice_index_or (slice_set slots j s) y Free ≡ s) (sym same) (get_or-set_same slots j s Free lt)

pub set_other : (slots : List Slot) (j k : ℕ) (s v : Slot) → (k ≡ j → ⊥) → slice_index_or slots k Free ≡ v →
    slice_index_or (slice_set slots j s) k Free ≡ v
set_other slots j k s v other is = get_or-set_other slots j k s Free other ∙ is

pub replicated : {X : Type 0} (x : X) (n k : ℕ) → get_or (replicate n x) k x ≡ x
replicated x zero zero = refl
replicated x zero (suc k) = refl
replicated x (suc n) zero = refl
replicated x (suc n) (suc k) = replicated x n k

-- what is not what a list tells past its end is within the list
pub within_if : {X : Type 0} (d : X) (xs : List X) (p : ℕ) → (get_or xs p d ≡ d → ⊥) → p < length xs
within_if d xs p used = elim (cases_lt p (length xs)) [
  | inl lt ↦ lt
  | inr past ↦ absurd (used (get_or_past xs p d past))
]

-- What is read of a list of which one element has changed: it is that one, or what was there before.
pub set_tells : {X : Type 0} (P : X → Type 0) (d : X) (xs : List X) (p q : ℕ) (s : X) → P (get_or (set xs p s) q d) →
    ((q ≡ p) × P s) ⊎ P (get_or xs q d)
set_tells {X} P d xs p q s h = elim (cases_eq q p) [
  | inr apart ↦ inr (subst P (get_or-set_other xs p q s d apart) h)
  | inl here ↦ elim (cases_lt p (length xs)) [
    | inl lt ↦ inl (here, subst P (ap (λ r. get_or (set xs p s) r d) here ∙ get_or-set_same xs p s d lt) h)
    | inr past ↦ inr (subst (λ (l : List X). P (get_or l q d)) (set_past xs p s past) h)
  ]
]
