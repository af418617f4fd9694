-- Lemmas about `AllByRecursion` for the laws of listings: two lists,
-- one after the other, each of them, and a list without its front.
use Rattle.std.proofs.Common.{ℕ, zero, suc, List, [], ◌∷◌, ◌++◌, drop}
use Rattle.std.specs.List.{AllByRecursion}

pub all_first : {A : Type 0} (P : A → Type 0) (xs ys : List A) → AllByRecursion P (xs ++ ys) → AllByRecursion P xs
all_first P [] ys h = tt
all_first P (x ∷ xs) ys h = (h.0, all_first P xs ys h.1)

pub all_rest : {A : Type 0} (P : A → Type 0) (xs ys : List A) → AllByRecursion P (xs ++ ys) → AllByRecursion P ys
all_rest P [] ys h = h
all_rest P (x ∷ xs) ys h = all_rest P xs ys h.1

pub all_both : {A : Type 0} (P : A → Type 0) (xs ys : List A) → AllByRecursion P xs →
    AllByRecursion P ys → AllByRecursion P (xs ++ ys)
all_both P [] ys h g = g
all_both P (x ∷ xs) ys h g = (h.0, all_both P xs ys h.1 g)

pub all_dropped : {A : Type 0} (P : A → Type 0) (k : ℕ) (xs : List A) →
    AllByRecursion P xs → AllByRecursion P (drop k xs)
all_dropped P zero xs h = h
all_dropped P (suc k) [] h = tt
all_dropped P (suc k) (x ∷ xs) h = all_dropped P k xs h.1
