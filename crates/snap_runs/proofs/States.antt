-- Induction over the states of a run, `at_each`, where each step may use what followed at all states before.
use Rattle.std.proofs.Common.{◌≡◌, ℕ, zero, suc, ◌<◌, ◌≤◌, sym, subst, arith, inl, inr}
use Rattle.std.proofs.Math.Nat.{eq-or-lt_of_le}

module _ (Holds Followed : ℕ → Type 0) (last : ℕ) (start : Holds 0) (follows : (t : ℕ) → Holds t → Followed t)
    (step : (t : ℕ) → t < last → ((u : ℕ) → u ≤ t → Followed u) → Holds t → Holds (suc t)) where
  with_past : (t : ℕ) → t ≤ last → Holds t × ((u : ℕ) → u ≤ t → Followed u)
  with_past zero h = (start, λ u le. subst Followed (let z : 0 ≡ u = omega arith in z) (follows 0 start))
  with_past (suc t) h =
      let past = with_past t (omega arith) in
      let now : Holds (suc t) = step t (omega arith) past.1 past.0 in (
        now,
        λ u le. elim (eq-or-lt_of_le le) [
          | inl same ↦ subst Followed (sym same) (follows (suc t) now)
          | inr less ↦ past.1 u (omega arith)
        ],
      )

  pub at_each : (t : ℕ) → t ≤ last → Holds t
  at_each t h = (with_past t h).0
