-- Lemmas about comparisons of numbers (`nat_lt`, `nat_le`,
-- `nat_eq`), `&&` and `if`, by which the proofs about runs compute.
use Rattle.std.proofs.Common.{◌≡◌, ◌≢◌, ℕ, zero, suc, ◌+◌, ◌<◌, ◌≤◌, Bool, true, false, not, ◌&&◌, Option, Some, None}
use Rattle.std.proofs.Common.{nat_eq, nat_lt, nat_le, if◌then◌else◌, refl, ap, subst, arith, inl, inr}
use Rattle.std.proofs.Math.Nat.{eq-or-lt_of_le}
use Rattle.std.proofs.lemmas.Grind.{common_steps}

pub lt_true : (x y : ℕ) → x < y → nat_lt x y ≡ true
lt_true x y h = grind (arith, common_steps)

pub lt_false : (x y : ℕ) → y ≤ x → nat_lt x y ≡ false
lt_false x y h = grind (arith, common_steps)

pub lt_from : (x y : ℕ) → nat_lt x y ≡ true → x < y
lt_from x y h = grind (arith, common_steps)

pub not_lt : (x y : ℕ) → nat_lt x y ≡ false → y ≤ x
not_lt x y h = grind (arith, common_steps)

pub le_true : (x y : ℕ) → x ≤ y → nat_le x y ≡ true
le_true x y h = grind (arith, common_steps)

pub le_from : (x y : ℕ) → nat_le x y ≡ true → x ≤ y
le_from x y h = grind (arith, common_steps)

-- numbers of which neither is less are one
pub neither_less : (x y : ℕ) → (x < y → ⊥) → (y < x → ⊥) → x ≡ y
neither_less x y h k = omega arith

-- what holds at a number, and at each later one where it holds at the number before
pub from_there : (Holds : ℕ → Type 0) (c t : ℕ) → c ≤ t → Holds c →
    ((u : ℕ) → c ≤ u → u < t → Holds u → Holds (suc u)) → Holds t
from_there Holds c zero le first next = subst Holds (let same : c ≡ 0 = omega arith in same) first
from_there Holds c (suc t) le first next =
    elim (eq-or-lt_of_le le) [
      | inl same ↦ subst Holds same first
      | inr less ↦
          next t (omega arith) (omega arith)
          (from_there Holds c t (omega arith) first (λ u low high. next u low (omega arith)))
    ]

pub same_number : (x : ℕ) → nat_eq x x ≡ true
same_number x = grind (arith, common_steps)

pub other_number : (x y : ℕ) → x ≢ y → nat_eq x y ≡ false
other_number x y h = grind (arith, common_steps)

pub same_from : (x y : ℕ) → nat_eq x y ≡ true → x ≡ y
same_from x y h = grind (arith, common_steps)

-- two numbers that differ
pub differs : (x y : ℕ) → nat_eq x y ≡ false → x ≤ y → x < y
differs x y h e = grind (arith, common_steps)

pub both : (x y : Bool) → (x && y) ≡ true → (x ≡ true) × (y ≡ true)
both true y h = (refl, h)
both false y h = absurd (cc)

pub and_true : (x : Bool) → (x && true) ≡ x
and_true true = refl
and_true false = refl

-- what is so where a test passes
pub and_when : (b x y : Bool) → (b ≡ true → x ≡ y) → (b && x) ≡ (b && y)
and_when true x y h = h refl
and_when false x y h = refl

pub if_true : {A : Type 0} (t : Bool) (x y : A) → t ≡ true → (if t then x else y) ≡ x
if_true t x y h = ap (λ v. if v then x else y) h

-- what holds of both sides holds of the choice
pub either : {A : Type 0} (P : A → Type 0) (b : Bool) (x y : A) → (b ≡ true → P x) →
    (b ≡ false → P y) → P (if b then x else y)
either P true x y f g = f refl
either P false x y f g = g refl

-- a property of `f None` and of each `f (Some x)` is one of `f` of an option
pub whether : {A B : Type 0} (P : B → Type 0) (f : Option A → B) (o : Option A) → (o ≡ None → P (f None)) →
    ((x : A) → o ≡ Some x → P (f (Some x))) → P (f o)
whether P f None g h = g refl
whether P f (Some x) g h = h x refl

-- what is done to either side of a choice is done to the choice
pub if_of : {A B : Type 0} (f : A → B) (b : Bool) (x y : A) → (if b then f x else f y) ≡ f (if b then x else y)
if_of f true x y = refl
if_of f false x y = refl

pub not_true : (b : Bool) → not b ≡ true → b ≡ false
not_true true h = absurd (cc)
not_true false h = refl

-- a choice gives none only where its test passes and that side gives none
pub none_then : {A : Type 0} (b : Bool) (o : Option A) (x : A) →
    (if b then o else Some x) ≡ None → (b ≡ true) × (o ≡ None)
none_then true o x h = (refl, h)
none_then false o x h = absurd (cc)

-- a number that is raised by one where a test passes
pub raised_least : (b : Bool) (v : ℕ) → v ≤ (if b then v + 1 else v)
raised_least true v = omega arith
raised_least false v = omega arith

pub raised_most : (b : Bool) (v most : ℕ) → v < most → (if b then v + 1 else v) ≤ most
raised_most true v most h = omega arith
raised_most false v most h = omega arith

pub raised_more : (b : Bool) (v : ℕ) → b ≡ true → v < (if b then v + 1 else v)
raised_more true v h = omega arith
raised_more false v h = absurd (cc)

pub raised_only : (b : Bool) (v : ℕ) → v < (if b then v + 1 else v) → b ≡ true
raised_only true v h = refl
raised_only false v h = absurd (omega arith)
