-- `budget`: the own steps of a scan before its first double collect,
-- and `round` more for each double collect that has failed.
use Rattle.std.proofs.Common.{◌≡◌, ℕ, zero, suc, ◌+◌, ◌-◌, ◌*◌, ◌≤◌, refl, ap, arith}

-- the own steps of c failed double collects of this many steps each
pub budget : (round rest : ℕ) → ℕ → ℕ
budget round rest zero = rest
budget round rest (suc c) = budget round rest c + round

pub budget_zero : (round rest : ℕ) → budget round rest 0 ≡ rest
unfolding budget
budget_zero round rest = refl

pub same_budget : (round rest c c' : ℕ) → c' ≡ c + 0 → budget round rest c' ≡ budget round rest c
same_budget round rest c c' e = ap (budget round rest) (let f : c' ≡ c = omega arith in f)

pub next_budget : (round rest c c' : ℕ) → c' ≡ c + 1 → budget round rest c' ≡ budget round rest c + round
unfolding budget
next_budget round rest c c' e = ap (budget round rest) (let f : c' ≡ suc c = omega arith in f)

budget_mono : (round rest c more : ℕ) → budget round rest c ≤ budget round rest (c + more)
unfolding budget
budget_mono round rest c zero =
    let e : budget round rest (c + 0) ≡ budget round rest c =
    ap (budget round rest) (let f : c + 0 ≡ c = omega arith in f) in
    omega arith
budget_mono round rest c (suc more) =
    let e : budget round rest (c + suc more) ≡ budget round rest (c + more) + round =
    ap (budget round rest) (let f : c + suc more ≡ suc (c + more) = omega arith in f) in
    let less : budget round rest c ≤ budget round rest (c + more) = budget_mono round rest c more in omega arith

budget_is : (round rest c : ℕ) → budget round rest c ≡ c * round + rest
unfolding budget
budget_is round rest zero = omega arith
budget_is round rest (suc c) =
    let before : budget round rest c ≡ c * round + rest = budget_is round rest c in
    let e : suc c * round ≡ c * round + round = grind arith in omega arith

pub budget_le : (round rest c most : ℕ) → c ≤ most → budget round rest c ≤ most * round + rest
budget_le round rest c most h =
    let a : budget round rest c ≤ budget round rest (c + (most - c)) = budget_mono round rest c (most - c) in
    let e : budget round rest (c + (most - c)) ≡ budget round rest most =
    ap (budget round rest) (let f : c + (most - c) ≡ most = omega arith in f) in
    let b : budget round rest most ≡ most * round + rest = budget_is round rest most in omega arith
