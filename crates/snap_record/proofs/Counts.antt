-- Counts of items that pass a test (`count`), split at an item: up to it, and after it.
use Rattle.std.proofs.Common.{◌≡◌, inl, inr, ℕ, zero, suc, ◌+◌, ◌≤◌, Bool, true, false}
use Rattle.std.proofs.Common.{if◌then◌else◌, refl, sym, ap, ◌∙◌, arith}
use Rattle.std.proofs.Math.Nat.{eq-or-lt_of_le}
use Rattle.snap_runs.specs.Scan.{count}
use Rattle.snap_runs.proofs.Counting.{count_next, count_none}

-- what is counted up to item e is counted up to item c or behind it
pub count_split : (test : ℕ → Bool) (c e : ℕ) → c ≤ e → count test 0 e ≡ count test 0 c + count test c e
count_split test zero zero le = refl
count_split test (suc c) zero le = absurd (omega (arith, le))
count_split test c (suc e) le = elim (eq-or-lt_of_le le) [
  | inl same ↦
      let none : count test c (suc e) ≡ 0 = count_none test c (suc e) (omega (arith, same)) in
      let all : count test 0 (suc e) ≡ count test 0 c = ap (count test 0) (sym same) in
      omega (arith, none, all)
  | inr less ↦
      let rest = count_split test c e (omega (arith, less)) in
      count_next test 0 e (omega arith)
      ∙ more (test (suc e)) (count test 0 e) (count test 0 c) (count test c e) rest
      ∙ ap (λ k. count test 0 c + k) (sym (count_next test c e (omega (arith, less))))
]
  where
    more : (b : Bool) (x y z : ℕ) → x ≡ y + z → (if b then suc x else x) ≡ y + (if b then suc z else z)
    more true x y z h = omega (arith, h)
    more false x y z h = h
