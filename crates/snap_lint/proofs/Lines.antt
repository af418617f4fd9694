-- Lemmas of the lint on a listing's lines: an instruction found by its number (`instr_at`) is of one of the lines,
-- and the lines to which it may lead exist.
use Rattle.std.specs.Prelude.{◌≡◌, ℕ, zero, suc, ◌<◌, Bool, true, List, [], ◌∷◌, length, Some, None, nat_eq}
use Rattle.std.specs.Prelude.{slice_index_or}
use Rattle.std.proofs.Common.{sym, subst, arith, inl, inr}
use Rattle.std.proofs.lemmas.Bool.{cases_Bool, eqb-true}
use Rattle.std.proofs.lemmas.Bool.Decides.{nat_tests}
use Rattle.std.proofs.lemmas.List.Elements.{Contains-append_left, Contains-append_right}
use Rattle.std.proofs.lemmas.List.Folds.{list_any_at}
use Rattle.std.specs.List.{AllByRecursion, Contains, flat_map, list_any}
use Rattle.snap_semantics.specs.declared.instr.Instr.{Instr}
use Rattle.snap_semantics.specs.declared.instr.Line.{Line}
use Rattle.snap_semantics.specs.Listing.{has_line, instr_targets, line_targets}
use Rattle.snap_semantics.specs.Source.{following, instr_at}
use Rattle.snap_listing.proofs.Alls.{all_first, all_rest}

abbrev pub line_of : ℕ → Instr → Line
line_of k i = record { number = k; instr = i }

-- a test that one of a list's elements passes
pub any_of : {X : Type 0} (p : X → Bool) (xs : List X) (x : X) → Contains xs x → p x ≡ true → list_any p xs ≡ true
any_of p xs x h is = list_any_at p xs h.0 x h.1 (rw h.2 is)

pub found : (lines : List Line) (k : ℕ) (i : Instr) → instr_at lines k ≡ Some i → Contains lines (line_of k i)
found [] k i is = absurd cc
found (line ∷ lines) k i is = elim (cases_Bool (nat_eq line.number k)) [
  | inl here ↦
      let number : line.number ≡ k = eqb-true line.number k here in
      let instr : Some line.instr ≡ Some i = rw here at is in
      let same : line_of line.number line.instr ≡ line_of k i = cc in (0, omega arith, same)
  | inr not ↦ Contains-append_right (line ∷ []) lines (line_of k i) (found lines k i (rw not at is))
]

-- a line has its instruction
pub has_instr : (lines : List Line) (k : ℕ) → has_line lines k ≡ true → instr_at lines k ≡ None → ⊥
has_instr [] k is none = cc
has_instr (line ∷ lines) k is none = grind (arith, has_instr lines k)

-- the line behind a line is there
pub following_there : (lines : List Line) (k m : ℕ) → following lines k ≡ Some m → has_line lines m ≡ true
following_there [] k m is = absurd cc
following_there (line ∷ []) k m is = grind arith
following_there (line ∷ next ∷ lines) k m is = grind (arith, nat_tests, following_there (next ∷ lines) k m)

-- what holds of the targets of all lines holds of those of a line
pub targets_of : (P : ℕ → Type 0) (lines : List Line) (k : ℕ) (i : Instr) → AllByRecursion P (line_targets lines) →
    instr_at lines k ≡ Some i → AllByRecursion P (instr_targets i)
targets_of P [] k i h is = absurd cc
targets_of P (line ∷ lines) k i h is = elim (cases_Bool (nat_eq line.number k)) [
  | inl here ↦
      let instr : Some line.instr ≡ Some i = rw here at is in
      subst (λ j. AllByRecursion P (instr_targets j)) (let e : line.instr ≡ i = cc in e)
      (all_first P (instr_targets line.instr) (line_targets lines) h)
  | inr not ↦
      targets_of P lines k i (all_rest P (instr_targets line.instr) (line_targets lines) h) (rw not at is)
]

in_flat_at : {X A : Type 0} (f : X → List A) (xs : List X) (x : X) (y : A) (k : ℕ) → k < length xs →
    slice_index_or xs k x ≡ x → Contains (f x) y → Contains (flat_map f xs) y
in_flat_at f [] x y k less is h = absurd (omega (arith, less))
in_flat_at {A} f (z ∷ xs) x y zero less is h =
    Contains-append_left (f z) (flat_map f xs) y (subst (λ u. Contains {X = A} (f u) y) (sym is) h)
in_flat_at f (z ∷ xs) x y (suc k) less is h =
    Contains-append_right (f z) (flat_map f xs) y (in_flat_at f xs x y k (omega (arith, less)) is h)

-- what one element gives is among what all give
pub in_flat : {X A : Type 0} (f : X → List A) (xs : List X) (x : X) (y : A) → Contains xs x →
    Contains (f x) y → Contains (flat_map f xs) y
in_flat f xs x y there h = in_flat_at f xs x y there.0 there.1 there.2 h
