-- The double collects and own steps that a scan of M has made
-- at each line, how a line raises them, and the limits on them.
use Rattle.snap_runs.proofs.Budget as budgets
use Rattle.snap_runs.proofs.Budget.{budget_zero, same_budget, next_budget, budget_le}
use Rattle.snap_runs.proofs.Computing.{either, not_lt}
use Rattle.snap_runs.proofs.Totals.{total, total_raised}
use Rattle.snap_runs.proofs.Places.{for_each, for_each_at, some_fails}
use Rattle.std.proofs.Common.{◌≡◌, ℕ, suc, ◌+◌, ◌-◌, ◌*◌, ◌<◌, ◌≤◌, false, Option, Some, None, nat_eq, nat_lt}
use Rattle.std.proofs.Common.{if◌then◌else◌, refl, ap, arith}
use Rattle.std.proofs.lemmas.Grind.{common_steps}
use Rattle.snap_words.specs.Shape.{IsOneOf}
use Rattle.snap_runs.proofs.Algorithm.{Mode, Scanning, GoesOn}
use Rattle.snap_runs.proofs.Flow.{IsScanLine}
use Rattle.snap_runs_of_m.proofs.Algorithm.{Registers, restarts, Move, Variables, ProgramCounter, L10, L11, L12, L13}
use Rattle.snap_runs_of_m.proofs.Algorithm.{L14, L15, L16, L17, L18, L19, L20, L21, L22, L23, L24, L25, L26, L27, L28}
use Rattle.snap_runs_of_m.proofs.Algorithm.{L29, L30, L31, L32, L33, L34, L35, L36, L37, L53, L54, move, first_to}
use Rattle.snap_runs_of_m.proofs.Algorithm.{place, same_at, counted, all_still, third_move, tests, in_update}
use Rattle.snap_runs_of_m.proofs.Basics.{other_from}
use Rattle.snap_runs_of_m.proofs.Control.{Keeps}

-- the own steps of c failed double collects
abbrev pub round : ℕ → ℕ → ℕ
round n w = 7 * n + 8 * w + 6

abbrev pub budget : ℕ → ℕ → ℕ → ℕ
budget n w c = budgets.budget (round n w) 3 c

-- the moves of all processes that a scan has seen
abbrev pub moves : ℕ → Variables → ℕ
moves n p = total (place p.moved) n

module _ (n w : ℕ) (p : Variables) (own c recent : ℕ) where
  -- Where a scan stands at a line, with this many own steps and ended double collects since its start, and `recent` ended
  -- double collects since its current one was started.
  abbrev pub Count : ProgramCounter → Type 0
  Count L10 = (own ≡ 0) × (c ≡ 0) × (recent ≡ 0)
  Count L11 = (own ≤ 1) × (c ≡ 0) × (recent ≡ 0)
  Count L12 = (own ≤ 2) × (c ≡ 0) × (recent ≡ 0)
  Count L13 = (own + 4 ≤ budget n w c + 4 * p.j) × (c ≤ moves n p) × (c + 1 ≤ 2 * n) × (recent ≡ 0)
  Count L14 = (own + 3 ≤ budget n w c + 4 * p.j) × (c ≤ moves n p) × (c + 1 ≤ 2 * n) × (recent ≡ 0)
  Count L15 = (own + 2 ≤ budget n w c + 4 * p.j) × (c ≤ moves n p) × (c + 1 ≤ 2 * n) × (recent ≡ 0)
  Count L16 = (own + 1 ≤ budget n w c + 4 * p.j) × (c ≤ moves n p) × (c + 1 ≤ 2 * n) × (recent ≡ 0)
  Count L17 = (own + 2 ≤ budget n w c + 4 * n + 2 * p.k) × (c ≤ moves n p) × (c + 1 ≤ 2 * n) × (recent ≡ 0)
  Count L18 = (own + 1 ≤ budget n w c + 4 * n + 2 * p.k) × (c ≤ moves n p) × (c + 1 ≤ 2 * n) × (recent ≡ 0)
  Count L19 = (own + 2 ≤ budget n w c + 4 * n + 2 * w + 2 * p.k) × (c ≤ moves n p) × (c + 1 ≤ 2 * n) × (recent ≡ 0)
  Count L20 = (own + 1 ≤ budget n w c + 4 * n + 2 * w + 2 * p.k) × (c ≤ moves n p) × (c + 1 ≤ 2 * n) × (recent ≡ 0)
  Count L21 = (own + 3 ≤ budget n w c + 4 * n + 4 * w + 3 * p.j) × (c ≤ moves n p) × (c + 1 ≤ 2 * n) × (recent ≡ 0)
  Count L22 = (own + 2 ≤ budget n w c + 4 * n + 4 * w + 3 * p.j) × (c ≤ moves n p) × (c + 1 ≤ 2 * n) × (recent ≡ 0)
  Count L23 = (own + 1 ≤ budget n w c + 4 * n + 4 * w + 3 * p.j) × (c ≤ moves n p) × (c + 1 ≤ 2 * n) × (recent ≡ 0)
  Count L24 = (own ≤ budget n w c + 7 * n + 4 * w) × (c ≤ moves n p) × (c + 1 ≤ 2 * n) × (recent ≡ 0)
  Count L25 = (own ≤ budget n w c + 7 * n + 4 * w + 1) × (c ≤ moves n p) × (c + 1 ≤ 2 * n) × (recent ≡ 0)
  Count L26 = (own + 2 ≤ budget n w c + 7 * n + 4 * w + 4 * p.k) × (c ≤ moves n p) × (c + 1 ≤ 2 * n) × (recent ≡ 0)
  Count L27 = (own + 1 ≤ budget n w c + 7 * n + 4 * w + 4 * p.k) × (c ≤ moves n p) × (c + 1 ≤ 2 * n) × (recent ≡ 0)
  Count L28 = (own ≤ budget n w c + 7 * n + 4 * w + 4 * p.k) × (c ≤ moves n p) × (c + 1 ≤ 2 * n) × (recent ≡ 0)
  Count L29 = (own ≤ budget n w c + 7 * n + 4 * w + 4 * p.k + 1) × (c ≤ moves n p) × (c + 1 ≤ 2 * n) × (recent ≡ 0)
  Count L30 = (own ≤ budget n w c + 7 * n + 8 * w + 2) × (c ≤ moves n p) × (c + 1 ≤ 2 * n) × (recent ≡ 0)
  Count L31 = (own + 3 ≤ budget n w c) × (c ≤ moves n p + 1) × (c + 1 ≤ 2 * n) × (recent ≤ 1) × (all_still n p ≡ false)
  Count L32 = (own + 2 ≤ budget n w c) × (c ≤ moves n p) × (c + 1 ≤ 2 * n)
  Count L33 = (own + 1 ≤ budget n w c) × (c ≤ moves n p) × (c + 1 ≤ 2 * n)
  Count L34 = (own + 3 ≤ budget n w c) × (c + 1 ≤ 2 * n)
  Count L35 = (own + 2 ≤ budget n w c) × (c + 1 ≤ 2 * n)
  Count L36 = (own + 1 ≤ budget n w c) × (c + 1 ≤ 2 * n)
  Count L37 = (own ≤ budget n w c) × (c + 1 ≤ 2 * n)
  Count _ = Unit {0}

module _ (n w own c recent : ℕ) where
  abbrev pub CountMove : Move → Type 0
  CountMove v = GoesOn (λ d m p k. Count n w p own c recent k) v

  count_first : (d : Mode) (m : Registers) (p : Variables) (o : Option ℕ) → own + 1 ≤ budget n w c → c ≤ moves n p →
      c + 1 ≤ 2 * n → CountMove (first_to d m p o)
  count_first d m p None a b e = (a, b, e)
  count_first d m p (Some k) a b e = (a, e)

abbrev pub counted_row : ℕ → Variables → Variables
counted_row n p = record p { moved = for_each n (counted p) p.moved }

-- where something is marked a move is counted
after_count : (n : ℕ) (p : Variables) → all_still n p ≡ false → ((c : ℕ) → IsOneOf n c → place p.d c ≤ 1) →
    (p' : Variables) → ((k : ℕ) → IsOneOf n k → place p'.moved k ≡ counted p k) → moves n p < moves n p'
after_count n p failed bits p' is =
    let some = some_fails (λ c. nat_eq (place p.d c) 0) 1 n failed in
    let k = some.0 in
    let i : IsOneOf n k = (omega arith, omega arith) in
    let one : place p.d k ≡ 1 =
    (let le : place p.d k ≤ 1 = bits k i in grind (arith, common_steps, other_from (place p.d k) 0 some.3)) in
    total_raised (place p.moved) (place p'.moved) (λ u. nat_eq (place p.d u) 1) n k i (ap (λ v. nat_eq v 1) one) is

module _ (n w me : ℕ) where
  -- each line keeps the counts: c' and recent' are the double collects with its own
  pub count_move : (d : Mode) (m : Registers) (p : Variables) (k : ProgramCounter) (own c c' recent recent' : ℕ) →
      0 < n → c' ≡ c + tests k → recent' ≡ (if restarts k then 0 else recent + tests k) → Keeps n w d p k →
      (k ≡ L30 → moves n p + 2 ≤ 2 * n) → (k ≡ L31 → (c : ℕ) → IsOneOf n c → place p.d c ≤ 1) →
      Count n w p own c recent k → CountMove n w (suc own) c' recent' (move n w me d m p k)
  count_move d m p L12 own c c' recent recent' pos e f keeps sharp bits h =
      omega (arith, ap (budget n w) (let z : c' ≡ 0 = omega arith in z), budget_zero (round n w) 3)
  count_move Scanning m p L35 own c c' recent recent' pos e f keeps sharp bits h = tt
  count_move Scanning m p L37 own c c' recent recent' pos e f keeps sharp bits h = tt
  count_move Scanning m p L54 own c c' recent recent' pos e f keeps sharp bits h = tt
  count_move d m p L16 own c c' recent recent' pos e f keeps sharp bits h =
      either (CountMove n w (suc own) c' recent') (nat_lt p.j n) _ _
      (λ t. omega (arith, same_budget (round n w) 3 c c' e))
      (λ t. omega (arith, same_budget (round n w) 3 c c' e, not_lt p.j n t))
  count_move d m p L18 own c c' recent recent' pos e f keeps sharp bits h =
      either (CountMove n w (suc own) c' recent') (nat_lt p.k w) _ _
      (λ t. omega (arith, same_budget (round n w) 3 c c' e))
      (λ t. omega (arith, same_budget (round n w) 3 c c' e, not_lt p.k w t))
  count_move d m p L20 own c c' recent recent' pos e f keeps sharp bits h =
      either (CountMove n w (suc own) c' recent') (nat_lt p.k w) _ _
      (λ t. omega (arith, same_budget (round n w) 3 c c' e))
      (λ t. omega (arith, same_budget (round n w) 3 c c' e, not_lt p.k w t))
  count_move d m p L23 own c c' recent recent' pos e f keeps sharp bits h =
      either (CountMove n w (suc own) c' recent') (nat_lt p.j n) _ _
      (λ t. omega (arith, same_budget (round n w) 3 c c' e))
      (λ t. omega (arith, same_budget (round n w) 3 c c' e, not_lt p.j n t))
  count_move d m p L26 own c c' recent recent' pos e f keeps sharp bits h =
      either (CountMove n w (suc own) c' recent') (same_at p.a p.b p.k) _ _
      (λ t. omega (arith, same_budget (round n w) 3 c c' e)) (λ t. omega (arith, same_budget (round n w) 3 c c' e))
  count_move d m p L29 own c c' recent recent' pos e f keeps sharp bits h =
      either (CountMove n w (suc own) c' recent') (nat_lt p.k w) _ _
      (λ t. omega (arith, same_budget (round n w) 3 c c' e))
      (λ t. omega (arith, same_budget (round n w) 3 c c' e, not_lt p.k w t))
  count_move d m p L30 own c c' recent recent' pos e f keeps sharp bits h =
      let b : budget n w c' ≡ budget n w c + (7 * n + 8 * w + 6) = next_budget (round n w) 3 c c' e in
      let less : moves n p + 2 ≤ 2 * n = sharp refl in
      either (CountMove n w (suc own) c' recent') (all_still n p) _ _ (λ t. omega arith)
      (λ t. (omega arith, omega arith, omega arith, omega arith, t))
  count_move d m p L31 own c c' recent recent' pos e f keeps sharp bits h =
      let more : moves n p < moves n (counted_row n p) =
      after_count n p h.4 (bits refl) (counted_row n p) (λ k i. for_each_at n (counted p) p.moved k i) in
      omega (arith, same_budget (round n w) 3 c c' e)
  count_move d m p L32 own c c' recent recent' pos e f keeps sharp bits h =
      let b : budget n w c' ≡ budget n w c = same_budget (round n w) 3 c c' e in
      count_first n w (suc own) c' recent' d m p (third_move n p) (omega arith) (omega arith) (omega arith)
  count_move d m p L53 own c c' recent recent' pos e f keeps sharp bits h =
      either (CountMove n w (suc own) c' recent') (nat_lt p.j n) _ _ (λ t. tt) (λ t. tt)
  count_move d m p k own c c' recent recent' pos e f keeps sharp bits h = omega (arith, same_budget (round n w) 3 c c' e)

-- the bounds at each line of a scan
pub collects_le : (n w : ℕ) (p : Variables) (k : ProgramCounter) (own c recent : ℕ) →
    0 < n → (k ≡ L30 → moves n p + 2 ≤ 2 * n) →
    Count n w p own c recent k → IsScanLine (in_update k) → c + tests k ≤ 2 * n - 1
collects_le n w p L30 own c recent pos sharp h s = omega (arith, sharp refl)
collects_le n w p k own c recent pos sharp h s = omega arith

own_all : (n w c own : ℕ) → c + 1 ≤ 2 * n → own ≤ budget n w c + (7 * n + 8 * w + 6) →
    own + 1 ≤ 14 * (n * n) + 16 * (n * w) + 19 * n + 8 * w + 10
own_all n w c own le h =
    let e : (2 * n) * (7 * n + 8 * w + 6) ≡ 14 * (n * n) + 16 * (n * w) + 12 * n = grind arith in
    omega (arith, next_budget (round n w) 3 c (c + 1) refl, budget_le (round n w) 3 (c + 1) (2 * n) le)

pub own_le : (n w : ℕ) (d : Mode) (p : Variables) (k : ProgramCounter) (own c recent : ℕ) →
    Keeps n w d p k → Count n w p own c recent k → IsScanLine (in_update k) →
    own + 1 ≤ 14 * (n * n) + 16 * (n * w) + 19 * n + 8 * w + 10
own_le n w d p L10 own c recent keeps h s = omega arith
own_le n w d p L11 own c recent keeps h s = omega arith
own_le n w d p L12 own c recent keeps h s = omega arith
own_le n w d p k own c recent keeps h s = own_all n w c own (omega arith) (omega arith)
