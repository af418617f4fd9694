-- For runs that reach the bounds: lists that a process which steps alone fills place by place (`Filled`), tests that
-- all places pass or one fails, and a row in which one place is counted (`Moved`).
use Rattle.std.proofs.Common.{◌≡◌, ◌≢◌, ℕ, ◌+◌, ◌-◌, ◌<◌, ◌≤◌, Bool, true, false, List, length, map, Some, None, nat_eq}
use Rattle.std.proofs.Common.{if◌then◌else◌, slice_index, slice_index_or, slice_set, refl, sym, ◌∙◌, ap, arith, inl}
use Rattle.std.proofs.Common.{inr}
use Rattle.std.proofs.Math.Nat.{eq-or-lt_of_le}
use Rattle.std.proofs.lemmas.Bool.{cases_eq, true_from_ne_false, false_from_ne_true}
use Rattle.std.proofs.lemmas.Grind.{get_or-set_at}
use Rattle.std.proofs.lemmas.List.{get_or-set_other}
use Rattle.snap_runs.proofs.Common.{IsOneOf, places_to, all_true, first_true}
use Rattle.snap_runs.proofs.Computing.{other_number}
use Rattle.snap_runs.proofs.Places.{all_pass, some_fails, first_found, for_each, for_each_at}

-- the places below place j, counted from 1, have these values
abbrev pub Filled : {A : Type 0} → (ℕ → A) → A → ℕ → List A → Type 0
Filled f d j xs = (k : ℕ) → 0 < k → k < j → slice_index_or xs (k - 1) d ≡ f k

pub filled_none : {A : Type 0} (f : ℕ → A) (d : A) (j : ℕ) (xs : List A) → j ≤ 1 → Filled f d j xs
filled_none f d j xs le k pos lt = absurd (omega arith)

pub filled_more : {A : Type 0} (f : ℕ → A) (d : A) (j i : ℕ) (xs : List A) (y : A) → 0 < j → j ≤ length xs →
    i ≡ j + 1 → y ≡ f j → Filled f d j xs → Filled f d i (slice_set xs (j - 1) y)
filled_more f d j i xs y pos le next is h k low high =
    let at_most : k ≤ j = omega arith in
    elim (eq-or-lt_of_le at_most) [
      | inl same ↦ get_or-set_at xs (j - 1) (k - 1) y d (omega arith) (omega arith) ∙ is ∙ ap f (sym same)
      | inr less ↦ get_or-set_other xs (j - 1) (k - 1) y d (λ e. absurd (omega arith)) ∙ h k low less
    ]

-- a test that every place passes
pub all_hold : (f : ℕ → Bool) (n : ℕ) → ((k : ℕ) → IsOneOf n k → f k ≡ true) → all_true (map f (places_to n)) ≡ true
all_hold f n h =
    true_from_ne_false (all_true (map f (places_to n))) (λ is.
    let r = some_fails f 1 n is in let e = h r.0 (omega arith, omega arith) in cc)

-- a test does not hold of all places if one place fails it
pub one_fails : (f : ℕ → Bool) (n k : ℕ) → IsOneOf n k → f k ≡ false → all_true (map f (places_to n)) ≡ false
one_fails f n k one h =
    false_from_ne_true (all_true (map f (places_to n))) (λ is.
    let e = all_pass f 1 n is k (omega arith) (omega arith) in cc)

-- there is no first place where no place passes
pub none_first : (f : ℕ → Bool) (n : ℕ) → ((k : ℕ) → IsOneOf n k → f k ≡ false) →
    first_true 1 (map f (places_to n)) ≡ None
none_first f n h =
    elim (first_true 1 (map f (places_to n))) as (λ o. first_true 1 (map f (places_to n)) ≡ o → o ≡ None) [
      | Some k ↦ λ is. let r = first_found 1 n f k is in
          absurd (let e = h k (omega arith, omega arith) in cc)
      | None ↦ λ is. refl
    ] refl

-- Place i of a row is counted once more, and no other place; none comes to the limit.
pub record Moved (n i limit : ℕ) (old new : List ℕ) : Type 0 where
  pub moved : slice_index new (i - 1) ≡ slice_index old (i - 1) + 1
  pub unmoved : (k : ℕ) → IsOneOf n k → k ≢ i → slice_index new (k - 1) ≡ slice_index old (k - 1)
  pub few : (k : ℕ) → IsOneOf n k → slice_index new (k - 1) < limit
  pub stays : first_true 1 (map (λ k. nat_eq (slice_index new (k - 1)) limit) (places_to n)) ≡ None

-- where only place i passes the test by which a row is counted
pub one_moves : (n i limit : ℕ) (moves : ℕ → Bool) (old : List ℕ) → IsOneOf n i → moves i ≡ true →
    ((k : ℕ) → IsOneOf n k → k ≢ i → moves k ≡ false) →
    ((k : ℕ) → IsOneOf n k → slice_index old (k - 1) < limit) → slice_index old (i - 1) + 1 < limit →
    Moved n i limit old
    (for_each n (λ k. if moves k then slice_index old (k - 1) + 1 else slice_index old (k - 1)) old)
one_moves n i limit moves old one moves_i stand few less =
    let count = λ (k : ℕ). if moves k then slice_index old (k - 1) + 1 else slice_index old (k - 1) in
    let new = for_each n count old in
    let moved : slice_index new (i - 1) ≡ slice_index old (i - 1) + 1 =
    for_each_at n count old i one
    ∙ ap (λ b. if b then slice_index old (i - 1) + 1 else slice_index old (i - 1)) moves_i in
    let unmoved : (k : ℕ) → IsOneOf n k → k ≢ i → slice_index new (k - 1) ≡ slice_index old (k - 1) =
    λ k at other. for_each_at n count old k at
    ∙ ap (λ b. if b then slice_index old (k - 1) + 1 else slice_index old (k - 1)) (stand k at other) in
    let below : (k : ℕ) → IsOneOf n k → slice_index new (k - 1) < limit =
    λ k at. elim (cases_eq k i) [
      | inl is ↦ omega (arith, ap (λ y. slice_index new (y - 1)) is, moved)
      | inr other ↦ omega (arith, unmoved k at other, few k at)
    ] in
    record {
      moved = moved;
      unmoved = unmoved;
      few = below;
      stays = none_first (λ k. nat_eq (slice_index new (k - 1)) limit) n (λ k at.
          let less : slice_index new (k - 1) < limit = below k at in
          other_number (slice_index new (k - 1)) limit (λ is. absurd (omega arith)));
    }
