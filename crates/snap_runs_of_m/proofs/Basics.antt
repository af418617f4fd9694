-- Lemmas for the proof of M about numbers, a bit that is turned, and places of rows and tables of bits that are set.
use Rattle.std.proofs.Common.{◌≡◌, ◌≢◌, ℕ, ◌-◌, ◌<◌, ◌≤◌, ◌⊎◌, true, false, List, [], length, slice_index}
use Rattle.std.proofs.Common.{slice_index_or, slice_set, nat_eq, nat_lt, refl, sym, ◌∙◌, ap, arith, inl, inr}
use Rattle.std.proofs.lemmas.Bool.{cases_eq}
use Rattle.std.proofs.lemmas.Grind.{common_steps, get_or-set_at}
use Rattle.std.proofs.lemmas.List.{get_or-set_other, length-set}
use Rattle.snap_runs.proofs.Computing.{lt_from, not_lt, same_number}
use Rattle.snap_words.specs.Shape.{IsOneOf}
use Rattle.snap_runs_of_m.proofs.Algorithm.{Bits, place, bit, with_bit, flip}

pub less_or_not : (x y : ℕ) → (x < y) ⊎ (y ≤ x)
less_or_not x y = elim (nat_lt x y) as (λ b. nat_lt x y ≡ b → (x < y) ⊎ (y ≤ x)) [
  | true ↦ λ e. inl (lt_from x y e)
  | false ↦ λ e. inr (not_lt x y e)
] refl

pub other_from : (x y : ℕ) → nat_eq x y ≡ false → x ≢ y
other_from x y h =
    λ e.
    absurd (let f : nat_eq x y ≡ true = ap (nat_eq x) (sym e) ∙ same_number x in let g : true ≡ false = sym f ∙ h in cc)

-- a bit and its opposite
pub flip_other : (x : ℕ) → flip x ≢ x
flip_other x = λ e. absurd (grind (arith, common_steps))

pub flip_bit : (x : ℕ) → flip x ≤ 1
flip_bit x = grind (arith, common_steps)

-- rows
pub set_here : (row : List ℕ) (k x : ℕ) → 0 < k → k ≤ length row → place (slice_set row (k - 1) x) k ≡ x
set_here row k x pos len = get_or-set_at row (k - 1) (k - 1) x 0 refl (omega arith)

pub set_there : (row : List ℕ) (k c x : ℕ) → 0 < k → 0 < c → c ≢ k → place (slice_set row (k - 1) x) c ≡ place row c
set_there row k c x pos some other = get_or-set_other row (k - 1) (c - 1) x 0 (λ same. other (omega arith))

-- bits
pub bit_here : (rows : Bits) (i j x : ℕ) → 0 < i → 0 < j → i ≤ length rows →
    j ≤ length (slice_index_or rows (i - 1) []) → bit (with_bit rows i j x) i j ≡ x
bit_here rows i j x pi pj li lj =
    let row = slice_index_or rows (i - 1) [] in
    ap (λ (r : List ℕ). slice_index r (j - 1))
    (get_or-set_at rows (i - 1) (i - 1) (slice_set row (j - 1) x) [] refl (omega arith))
    ∙ get_or-set_at row (j - 1) (j - 1) x 0 refl (omega arith)

pub bit_elsewhere : (rows : Bits) (i j x c : ℕ) → 0 < i → 0 < j → 0 < c → c ≢ j → i ≤ length rows →
    bit (with_bit rows i j x) i c ≡ bit rows i c
bit_elsewhere rows i j x c pi pj pc other li =
    let row = slice_index_or rows (i - 1) [] in
    ap (λ (r : List ℕ). slice_index r (c - 1))
    (get_or-set_at rows (i - 1) (i - 1) (slice_set row (j - 1) x) [] refl (omega arith))
    ∙ get_or-set_other row (j - 1) (c - 1) x 0 (λ same. other (omega arith))

pub row_elsewhere : (rows : Bits) (i j x u : ℕ) → 0 < i → 0 < u → u ≢ i →
    slice_index_or (with_bit rows i j x) (u - 1) [] ≡ slice_index_or rows (u - 1) []
row_elsewhere rows i j x u pi pu other =
    get_or-set_other rows (i - 1) (u - 1)
    (slice_set (slice_index_or rows (i - 1) []) (j - 1) x) [] (λ same. other (omega arith))

-- the lengths of the rows of bits
abbrev pub Square : ℕ → Bits → Type 0
Square n rows = (length rows ≡ n) × ((i : ℕ) → IsOneOf n i → length (slice_index_or rows (i - 1) []) ≡ n)

pub square_kept : (n : ℕ) (rows : Bits) (i j x : ℕ) → IsOneOf n i → Square n rows → Square n (with_bit rows i j x)
square_kept n rows i j x one h = (
  length-set rows (i - 1) (slice_set (slice_index_or rows (i - 1) []) (j - 1) x) ∙ h.0,
  λ u ou. elim (cases_eq u i) [
    | inl same ↦ ap (λ y. length (slice_index_or (with_bit rows i j x) (y - 1) [])) same
        ∙ ap length (get_or-set_at rows (i - 1) (i - 1) (slice_set (slice_index_or rows (i - 1) []) (j - 1) x) [] refl
        (omega (arith, h.0)))
        ∙ length-set (slice_index_or rows (i - 1) []) (j - 1) x ∙ h.1 i one
    | inr other ↦ ap length (row_elsewhere rows i j x u one.0 ou.0 other) ∙ h.1 u ou
  ],
)
