-- The operations of a run in one order: at each item the update that writes there, and then the scans with their
-- points there.
use Rattle.std.specs.Prelude.{◌≡◌, ℕ, zero, suc, ◌-◌, ◌<◌, ◌≤◌, ◌⊎◌, List, [], ◌∷◌, ◌++◌, length, slice_index_or, refl}
use Rattle.std.specs.List.{AllByRecursion, AllPairs}
use Rattle.std.proofs.Common.{◌∙◌, subst, arith, inl, inr}
use Rattle.std.proofs.lemmas.Bool.{cases_lt}
use Rattle.std.proofs.lemmas.List.{length-set}
use Rattle.std.proofs.lemmas.List.Elements.{All-from_recursion}
use Rattle.std.proofs.Math.Nat.{eq-or-lt_of_le}
use Rattle.snap_runs.specs.Operation.{Action, Sets, Sees, Operation, EndedBefore}
use Rattle.snap_runs.specs.Linearization.{after, Allows, RunsFrom, KeepsOrder}

-- what holds of each pair, of which the first stands before the second
abbrev pub Pairs : (Operation → Operation → Type 0) → List Operation → Type 0
Pairs R [] = Unit {0}
Pairs R (o ∷ os) = AllByRecursion (R o) os × Pairs R os

pub all_pairs : (R : Operation → Operation → Type 0) (os : List Operation) → Pairs R os → AllPairs R os
all_pairs R (o ∷ os) h zero (suc j) d lt short = All-from_recursion (R o) os h.0 j d (omega arith)
all_pairs R (o ∷ os) h (suc i) (suc j) d lt short = all_pairs R os h.1 i j d (omega arith) (omega arith)
all_pairs R _ h i _ d lt short = absurd (omega arith)

-- one more at the end
pub all_push : (P : Operation → Type 0) (os : List Operation) (o : Operation) → AllByRecursion P os → P o →
    AllByRecursion P (os ++ o ∷ [])
all_push P [] o h last = (last, tt)
all_push P (x ∷ os) o h last = (h.0, all_push P os o h.1 last)

pub all_weaker : (P Q : Operation → Type 0) (os : List Operation) → ((o : Operation) → P o → Q o) →
    AllByRecursion P os → AllByRecursion Q os
all_weaker P Q [] gives h = tt
all_weaker P Q (o ∷ os) gives h = (gives o h.0, all_weaker P Q os gives h.1)

pub pairs_push : (R : Operation → Operation → Type 0) (P : Operation → Type 0) (os : List Operation) (o : Operation) →
    ((x : Operation) → P x → R x o) → AllByRecursion P os → Pairs R os → Pairs R (os ++ o ∷ [])
pairs_push R P [] o gives h pairs = (tt, tt)
pairs_push R P (x ∷ os) o gives h pairs =
    (all_push (R x) os o pairs.0 (gives x h.0), pairs_push R P os o gives h.1 pairs.1)

pub pairs_weaker : (R S : Operation → Operation → Type 0) (os : List Operation) →
    ((a b : Operation) → R a b → S a b) → Pairs R os → Pairs S os
pairs_weaker R S [] gives h = tt
pairs_weaker R S (o ∷ os) gives h = (all_weaker (R o) (S o) os (gives o) h.0, pairs_weaker R S os gives h.1)

-- the values after all of them
pub after_all : List ℕ → List Operation → List ℕ
after_all values [] = values
after_all values (o ∷ os) = after_all (after values o.action) os

pub after_none : (values : List ℕ) → after_all values [] ≡ values
unfolding after_all
after_none values = refl

pub after_push : (values : List ℕ) (os : List Operation) (o : Operation) →
    after_all values (os ++ o ∷ []) ≡ after (after_all values os) o.action
unfolding after_all
after_push values [] o = refl
after_push values (x ∷ os) o = after_push (after values x.action) os o

length_after : (values : List ℕ) (a : Action) → length (after values a) ≡ length values
length_after values (Sets word value) = length-set values (word - 1) value
length_after values (Sees view) = refl

pub length_after_all : (values : List ℕ) (os : List Operation) → length (after_all values os) ≡ length values
unfolding after_all
length_after_all values [] = refl
length_after_all values (o ∷ os) = length_after_all (after values o.action) os ∙ length_after values o.action

pub runs_push : (values : List ℕ) (os : List Operation) (o : Operation) → RunsFrom values os →
    Allows (after_all values os) o.action → RunsFrom values (os ++ o ∷ [])
unfolding after_all
runs_push values [] o runs allows = (allows, tt)
runs_push values (x ∷ os) o runs allows = (runs.0, runs_push (after values x.action) os o runs.1 allows)

-- of two operations that stand in this order: their calls are two, and the second did not
-- end before the first was called
abbrev pub Apart : Operation → Operation → Type 0
Apart a b = (a.call ≡ b.call → ⊥) × (EndedBefore b a → ⊥)

pub keeps_order : (os : List Operation) → AllByRecursion (λ o. EndedBefore o o → ⊥) os → Pairs Apart os → KeepsOrder os
keeps_order os itself pairs j k d lj lk ended =
    elim (cases_lt j k) [
      | inl less ↦ less
      | inr le ↦ elim (eq-or-lt_of_le le) [
        | inl same ↦ absurd (All-from_recursion (λ o. EndedBefore o o → ⊥) os itself j d lj
            (subst (λ y. EndedBefore (slice_index_or os j d) (slice_index_or os y d)) same ended))
        | inr more ↦ absurd ((all_pairs Apart os pairs k j d more lj).1 ended)
      ]
    ]

-- A place in the order: an item, and at the item a number.
abbrev pub Sooner : ℕ → ℕ → ℕ → ℕ → Type 0
Sooner t s u v = (t < u) ⊎ ((t ≡ u) × (s < v))

pub sooner_next : (t s u v : ℕ) → Sooner t s u v → Sooner t s u (suc v)
sooner_next t s u v (inl less) = inl less
sooner_next t s u v (inr here) = inr (here.0, omega arith)

pub sooner_item : (t s u v : ℕ) → Sooner t s u v → Sooner t s (suc u) 0
sooner_item t s u v (inl less) = inl (omega arith)
sooner_item t s u v (inr here) = inl (omega arith)

pub sooner_differs : (t s u v : ℕ) → Sooner t s u v → t ≡ u → s ≡ v → ⊥
sooner_differs t s u v (inl less) same equal = omega arith
sooner_differs t s u v (inr here) same equal = omega arith

pub sooner_item_le : (t s u v : ℕ) → Sooner t s u v → t ≤ u
sooner_item_le t s u v (inl less) = omega arith
sooner_item_le t s u v (inr here) = omega arith

-- what is sooner than the next spot of an item is sooner than this one, or here
pub sooner_or_here : (t s u v : ℕ) → Sooner t s u (suc v) → Sooner t s u v ⊎ ((t ≡ u) × (s ≡ v))
sooner_or_here t s u v (inl less) = inl (inl less)
sooner_or_here t s u v (inr here) =
    elim (cases_lt s v) [
      | inl less ↦ inl (inr (here.0, less))
      | inr more ↦ inr (here.0, omega arith)
    ]

-- what is sooner than the next item is sooner than the numbers past the last one here
pub sooner_before_item : (t s u most : ℕ) → s ≤ most → Sooner t s (suc u) 0 → Sooner t s u (suc most)
sooner_before_item t s u most le (inl less) =
    elim (cases_lt t u) [
      | inl lt ↦ inl lt
      | inr ge ↦ inr (omega arith, omega arith)
    ]
sooner_before_item t s u most le (inr here) = absurd (omega arith)
