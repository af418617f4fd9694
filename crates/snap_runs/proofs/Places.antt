-- What a line computes over the places 1 to n where nothing traps: the row
-- after `each`, the first place that passes a test, a test of all places.
use Rattle.std.specs.Prelude.{◌≡◌, ℕ, zero, suc, ◌+◌, ◌-◌, ◌^◌, ◌<◌, ◌≤◌, Bool, true, false, ◌&&◌, List, ◌++◌, drop}
use Rattle.std.specs.Prelude.{map, Some, None, Result, Ok, Err, if◌then◌else◌, slice_index, refl}
use Rattle.std.proofs.Common.{sym, ◌∙◌, ap, arith, inl, inr}
use Rattle.std.specs.List.{range_with_len}
use Rattle.std.proofs.Math.Nat.{eq-or-lt_of_le}
use Rattle.std.proofs.lemmas.List.{get_or_append_left}
use Rattle.std.proofs.lemmas.List.FromFn.{get_or-map-range_with_len, length-map-range_with_len}
use Rattle.snap_words.specs.Shape.{IsOneOf}
use Rattle.snap_semantics.specs.declared.process.Cause.{Cause}
use Rattle.snap_semantics.specs.Answers.{◌>>=◌}
use Rattle.snap_semantics.specs.Table.{Effect, places_to, all_true, first_true}
use Rattle.snap_semantics.specs.Value.{place_in, each_of, checked_sum}
use Rattle.snap_runs.proofs.Computing.{lt_true, le_true, both, if_true}

-- what does not trap
pub bind_ok : {A B : Type 0} (r : Result A Cause) (f : A → Result B Cause) (v : A) (z : Result B Cause) →
    r ≡ Ok v → f v ≡ z → (r >>= f) ≡ z
bind_ok r f v z h e = ap (λ q. q >>= f) h ∙ e

pub place_ok : (count k : ℕ) → IsOneOf count k → place_in count k ≡ Ok (k - 1)
place_ok count k h = rw (lt_true 0 k h.0, le_true k count h.1) refl

pub sum_ok : (x y : ℕ) → x + y < 2 ^ 64 → checked_sum x y ≡ Ok (x + y)
sum_ok x y h = if_true _ _ _ (lt_true (x + y) (2 ^ 64) h)

pub owned_ok : {A : Type 0} (own : Bool) (x : A) (cause : Cause) (f : A → Result Effect Cause) → own ≡ true →
    ((if own then Ok x else Err cause) >>= f) ≡ f x
owned_ok own x cause f h = ap (λ b. (if b then Ok x else Err cause) >>= f) h

pub each_ok : {A : Type 0} (f : ℕ → Result A Cause) (g : ℕ → A) (from count : ℕ) →
    ((k : ℕ) → from ≤ k → k < from + count → f k ≡ Ok (g k)) →
    each_of f (range_with_len from count) ≡ Ok (map g (range_with_len from count))
each_ok f g from zero h = refl
each_ok f g from (suc count) h =
    bind_ok (f from) _ (g from) _ (h from (omega arith) (omega arith))
    (bind_ok (each_of f (range_with_len (from + 1) count)) _ (map g (range_with_len (from + 1) count)) _
    (each_ok f g (from + 1) count (λ k low high. h k (omega arith) (omega arith))) refl)

-- the row after `each`
abbrev pub for_each : ℕ → (ℕ → ℕ) → List ℕ → List ℕ
for_each n f old = map f (places_to n) ++ drop n old

pub for_each_at : (n : ℕ) (f : ℕ → ℕ) (old : List ℕ) (k : ℕ) → IsOneOf n k →
    slice_index (for_each n f old) (k - 1) ≡ f k
for_each_at n f old k h =
    get_or_append_left (map f (places_to n)) (drop n old) 0 (k - 1) (omega (arith, length-map-range_with_len f 1 n))
    ∙ get_or-map-range_with_len f 1 n (k - 1) k 0 (omega arith) (omega arith)

-- the first place that passes a test, and what it means that none does
pub first_found : (from count : ℕ) (f : ℕ → Bool) (k : ℕ) →
    first_true from (map f (range_with_len from count)) ≡ Some k → (from ≤ k) × (k < from + count) × (f k ≡ true)
first_found from zero f k h = absurd (cc)
first_found from (suc count) f k h =
    elim (f from) as (λ b.
    f from ≡ b → (if b then Some from else first_true (from + 1) (map f (range_with_len (from + 1) count))) ≡ Some k →
    (from ≤ k) × (k < from + suc count) × (f k ≡ true)) [
      | true ↦ λ is e. let same : from ≡ k = cc in (omega arith, omega arith, ap f (sym same) ∙ is)
      | false ↦ λ is e. let r = first_found (from + 1) count f k e in (omega arith, omega arith, r.2)
    ] refl h

pub first_none : (from count : ℕ) (f : ℕ → Bool) → first_true from (map f (range_with_len from count)) ≡ None →
    (k : ℕ) → from ≤ k → k < from + count → f k ≡ false
first_none from zero f h k low high = absurd (omega arith)
first_none from (suc count) f h k low high =
    elim (f from) as (λ b. f from ≡ b →
    (if b then Some from else first_true (from + 1) (map f (range_with_len (from + 1) count))) ≡ None → f k ≡ false) [
      | true ↦ λ is e. absurd (cc)
      | false ↦ λ is e. elim (eq-or-lt_of_le low) [
        | inl same ↦ ap f (sym same) ∙ is
        | inr more ↦ first_none (from + 1) count f e k (omega arith) (omega arith)
      ]
    ] refl h

-- a test that all places pass, and one that some place fails
pub all_pass : (f : ℕ → Bool) (from count : ℕ) → all_true (map f (range_with_len from count)) ≡ true → (k : ℕ) →
    from ≤ k → k < from + count → f k ≡ true
all_pass f from zero h k low high = absurd (omega arith)
all_pass f from (suc count) h k low high =
    let r = both (f from) (all_true (map f (range_with_len (from + 1) count))) h in
    elim (eq-or-lt_of_le low) [
      | inl same ↦ ap f (sym same) ∙ r.0
      | inr more ↦ all_pass f (from + 1) count r.1 k (omega arith) (omega arith)
    ]

pub some_fails : (f : ℕ → Bool) (from count : ℕ) → all_true (map f (range_with_len from count)) ≡ false →
    (k : ℕ) × (from ≤ k) × (k < from + count) × (f k ≡ false)
some_fails f from zero h = absurd (cc)
some_fails f from (suc count) h =
    elim (f from) as (λ b. f from ≡ b → (b && all_true (map f (range_with_len (from + 1) count))) ≡ false →
    (k : ℕ) × (from ≤ k) × (k < from + suc count) × (f k ≡ false)) [
      | true ↦ λ is e. let r = some_fails f (from + 1) count e in (r.0, omega arith, omega arith, r.3)
      | false ↦ λ is e. (from, omega arith, omega arith, is)
    ] refl h
