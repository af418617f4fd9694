-- Lists of lines of which the front is known, with k elements: it
-- is taken, it is dropped with the next element, and that is found.
use Rattle.std.proofs.Common.{◌≡◌, ℕ, zero, suc, ◌+◌, List, [], ◌∷◌, ◌++◌, length, take, drop, Some, refl, arith}
use Rattle.std.proofs.lemmas.Grind.{common_steps}
use Rattle.std.specs.Prelude.{slice_get}

pub taken : {A : Type 0} (front rest : List A) (k : ℕ) → length front ≡ k → take k (front ++ rest) ≡ front
taken front rest k e = grind (arith, common_steps, e)

pub dropped : {A : Type 0} (front : List A) (x : A) (rest : List A) (k : ℕ) → length front ≡ k →
    drop (k + 1) (front ++ x ∷ rest) ≡ rest
dropped [] x rest k e = grind (arith, common_steps, e)
dropped (y ∷ front) x rest zero e = absurd (omega (arith, e))
dropped (y ∷ front) x rest (suc k) e =
    let h : length front ≡ k = omega (arith, e) in
    let s : suc k + 1 ≡ suc (k + 1) = omega arith in
    rw s (dropped front x rest k h)

pub found : {A : Type 0} (front : List A) (x : A) (rest : List A) (k : ℕ) → length front ≡ k →
    slice_get (front ++ x ∷ rest) k ≡ Some x
found [] x rest zero e = refl
found [] x rest (suc k) e = absurd (omega (arith, e))
found (y ∷ front) x rest zero e = absurd (omega (arith, e))
found (y ∷ front) x rest (suc k) e = let h : length front ≡ k = omega (arith, e) in found front x rest k h

pub one_more : {A : Type 0} (front : List A) (x : A) (k : ℕ) → length front ≡ k → length (front ++ x ∷ []) ≡ k + 1
one_more front x k e = grind (arith, common_steps, e)
