-- Lemmas about `total`, the sum of a function over the places 1 to n: bounds on it, and what makes it grow.
use Rattle.std.specs.Prelude.{◌≡◌, ℕ, zero, suc, ◌+◌, ◌*◌, ◌<◌, ◌≤◌, Bool, true, if◌then◌else◌}
use Rattle.std.proofs.Common.{sym, ◌∙◌, ap, subst, arith, inl, inr}
use Rattle.std.proofs.lemmas.Bool.{cases_eq}
use Rattle.snap_words.specs.Shape.{IsOneOf}
use Rattle.snap_runs.proofs.Computing.{raised_least, raised_more}

pub total : (ℕ → ℕ) → ℕ → ℕ
total f zero = 0
total f (suc n) = total f n + f (suc n)

one_more : (n most : ℕ) → suc n * most ≡ n * most + most
one_more n most = grind arith

pub total_le : (most : ℕ) (f : ℕ → ℕ) (n : ℕ) → ((k : ℕ) → IsOneOf n k → f k ≤ most) → total f n ≤ n * most
unfolding total
total_le most f zero h = omega arith
total_le most f (suc n) h =
    let rest : total f n ≤ n * most = total_le most f n (λ k i. h k (i.0, omega arith)) in
    let last : f (suc n) ≤ most = h (suc n) (omega arith, omega arith) in
    let more : suc n * most ≡ n * most + most = one_more n most in omega arith

-- a total of places each at most `most`, one of which is 0, is less by `most`
pub total_less : (most : ℕ) (f : ℕ → ℕ) (n i : ℕ) → IsOneOf n i → f i ≡ 0 →
    ((k : ℕ) → IsOneOf n k → f k ≤ most) → total f n + most ≤ n * most
unfolding total
total_less most f zero i one z h = absurd (omega arith)
total_less most f (suc n) i one z h =
    let more : suc n * most ≡ n * most + most = one_more n most in
    elim (cases_eq i (suc n)) [
      | inl same ↦ (let rest : total f n ≤ n * most = total_le most f n (λ k e. h k (e.0, omega arith)) in
          let last : f (suc n) ≡ 0 = ap f (sym same) ∙ z in omega arith)
      | inr other ↦ (let rest : total f n + most ≤ n * most =
          total_less most f n i (one.0, omega arith) z (λ k e. h k (e.0, omega arith)) in
          let last : f (suc n) ≤ most = h (suc n) (omega arith, omega arith) in omega arith)
    ]

pub total_mono : (f g : ℕ → ℕ) (n : ℕ) → ((k : ℕ) → IsOneOf n k → f k ≤ g k) → total f n ≤ total g n
unfolding total
total_mono f g zero h = omega arith
total_mono f g (suc n) h =
    let rest : total f n ≤ total g n = total_mono f g n (λ k i. h k (i.0, omega arith)) in
    let last : f (suc n) ≤ g (suc n) = h (suc n) (omega arith, omega arith) in omega arith

pub total_more : (f g : ℕ → ℕ) (n i : ℕ) → IsOneOf n i → f i < g i →
    ((k : ℕ) → IsOneOf n k → f k ≤ g k) → total f n < total g n
unfolding total
total_more f g zero i one lt h = absurd (omega arith)
total_more f g (suc n) i one lt h =
    elim (cases_eq i (suc n)) [
      | inl same ↦ (let rest : total f n ≤ total g n = total_mono f g n (λ k e. h k (e.0, omega arith)) in
          let last : f (suc n) < g (suc n) = subst (λ x. f x < g x) same lt in omega arith)
      | inr other ↦ (let rest : total f n < total g n =
          total_more f g n i (one.0, omega arith) lt (λ k e. h k (e.0, omega arith)) in
          let last : f (suc n) ≤ g (suc n) = h (suc n) (omega arith, omega arith) in omega arith)
    ]

-- a total grows where each place that is marked is raised by one, and one is marked
pub total_raised : (f g : ℕ → ℕ) (marked : ℕ → Bool) (n k : ℕ) → IsOneOf n k → marked k ≡ true →
    ((u : ℕ) → IsOneOf n u → g u ≡ (if marked u then f u + 1 else f u)) →
    total f n < total g n
total_raised f g marked n k i mark is =
    total_more f g n k i (subst (λ y. f k < y) (sym (is k i)) (raised_more (marked k) (f k) mark))
    (λ u j. subst (λ y. f u ≤ y) (sym (is u j)) (raised_least (marked u) (f u)))
