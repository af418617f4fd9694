-- The double collects and own steps that a scan of U has made
-- at each line, how a line raises them, and the limits on them.
use Rattle.std.proofs.Common.{◌≡◌, ℕ, suc, ◌+◌, ◌*◌, ◌<◌, ◌≤◌, false, not, map, nat_lt, if◌then◌else◌, refl, ap, arith}
use Rattle.snap_runs.proofs.Common.{places_to, all_true, first_true, IsOneOf}
use Rattle.snap_runs.proofs.Algorithm.{Mode, Scanning, Updating, GoesOn}
use Rattle.snap_runs.proofs.Budget as budgets
use Rattle.snap_runs.proofs.Budget.{budget_zero, same_budget, next_budget, budget_le}
use Rattle.snap_runs.proofs.Computing.{not_lt, either, whether}
use Rattle.snap_runs.proofs.Places.{for_each, for_each_at, some_fails}
use Rattle.snap_runs.proofs.Totals.{total, total_le, total_less, total_raised}
use Rattle.snap_runs.proofs.Flow.{IsScanLine}
use Rattle.snap_runs_of_u.proofs.Algorithm.{Words, Move, Variables, ProgramCounter, L10, L11, L12, L13, L14, L15, L16}
use Rattle.snap_runs_of_u.proofs.Algorithm.{L17, L18, L19, L21, L22, L23, L24, L30, move, first_to}
use Rattle.snap_runs_of_u.proofs.Algorithm.{agree, moved_at, counted, at_limit, tests, restarts, in_update}
use Rattle.snap_runs_of_u.proofs.Control.{BelowLimit, VariablesAt}

-- the own steps of c failed double collects
abbrev pub round : ℕ → ℕ
round n = 4 * n + 4

abbrev pub budget : ℕ → ℕ → ℕ
budget n c = budgets.budget (round n) 2 c

-- the moves that a scan has counted
abbrev pub moves : ℕ → Variables → ℕ
moves n p = total (moved_at p) n

moves_le : (n : ℕ) (p : Variables) → BelowLimit n p → moves n p ≤ n
moves_le n p below = omega (arith, total_le 1 (moved_at p) n (λ k i. omega (arith, below k i)))

-- the moves are fewer than n where one process has not been seen to move
pub moves_less : (n i : ℕ) (p : Variables) → IsOneOf n i → moved_at p i ≡ 0 → BelowLimit n p → moves n p < n
moves_less n i p one zeroed below =
    omega (arith, total_less 1 (moved_at p) n i one zeroed (λ k e. omega (arith, below k e)))

-- Where a scan stands at a line, with this many own steps and ended double collects since its start, and `recent` ended
-- double collects since its current one was started.
abbrev pub Count : ℕ → Variables → ℕ → ℕ → ℕ → ProgramCounter → Type 0
-- none yet
Count n p own c recent L10 = (own ≡ 0) × (c ≡ 0) × (recent ≡ 0)
Count n p own c recent L11 = (own ≤ 1) × (c ≡ 0) × (recent ≡ 0)
-- every failed double collect has raised a move; the steps since the last one are two for
-- each place that a collect has done
Count n p own c recent L12 = (own + 2 ≤ budget n c + 2 * p.j) × (c ≤ moves n p) × (recent ≡ 0)
Count n p own c recent L13 = (own + 1 ≤ budget n c + 2 * p.j) × (c ≤ moves n p) × (recent ≡ 0)
Count n p own c recent L14 = (own + 2 ≤ budget n c + 2 * n + 2 * p.j) × (c ≤ moves n p) × (recent ≡ 0)
Count n p own c recent L15 = (own + 1 ≤ budget n c + 2 * n + 2 * p.j) × (c ≤ moves n p) × (recent ≡ 0)
Count n p own c recent L16 = (own ≤ budget n c + 4 * n) × (c ≤ moves n p) × (recent ≡ 0)
-- one more has failed: it is within the bound, since a process does not see itself move; its moves are to be counted
Count n p own c recent L17 =
    (own + 3 ≤ budget n c) × (c ≤ moves n p + 1) × (c ≤ n) × (recent ≤ 1)
    × (all_true (map (agree p) (places_to n)) ≡ false)
-- the moves are counted; the bounds are as before, or the scan ends
Count n p own c recent L18 = (own + 2 ≤ budget n c) × (c ≤ moves n p) × (c ≤ n)
Count n p own c recent L19 = (own + 1 ≤ budget n c) × (c ≤ moves n p)
Count n p own c recent L21 = (own + 3 ≤ budget n c) × (c ≤ n)
Count n p own c recent L22 = (own + 2 ≤ budget n c) × (c ≤ n)
Count n p own c recent L23 = (own + 1 ≤ budget n c) × (c ≤ n)
Count n p own c recent L24 = (own ≤ budget n c) × (c ≤ n)
-- an update outside its scan
Count n p own c recent k = Unit {0}

abbrev pub CountMove : ℕ → ℕ → ℕ → ℕ → Move → Type 0
CountMove n own c recent v = GoesOn (λ d m p k. Count n p own c recent k) v

abbrev pub counted_row : ℕ → Variables → Variables
counted_row n p = record p { moved = for_each n (counted p) p.moved }

after_count : (n : ℕ) (p : Variables) → all_true (map (agree p) (places_to n)) ≡ false → (p' : Variables) →
    ((k : ℕ) → IsOneOf n k → moved_at p' k ≡ counted p k) → moves n p < moves n p'
after_count n p failed p' is =
    let some = some_fails (agree p) 1 n failed in
    let k = some.0 in
    let i : IsOneOf n k = (omega arith, omega arith) in
    total_raised (moved_at p) (moved_at p') (λ u. not (agree p u)) n k i (ap not some.3) is

-- each line keeps the counts: c' and recent' are the double collects with its own
pub count_move : (n me : ℕ) (d : Mode) (words : Words) (p : Variables) (k : ProgramCounter)
    (own c c' recent recent' : ℕ) → c' ≡ c + tests k →
    recent' ≡ (if restarts k then 0 else recent + tests k) → VariablesAt n p k → ((k ≡ L16) → moves n p < n) →
    Count n p own c recent k → CountMove n (suc own) c' recent' (move n me d words p k)
count_move n me d words p L11 own c c' recent recent' e f keeps sharp h =
    omega (arith, ap (budget n) (let f : c' ≡ 0 = omega arith in f), budget_zero (round n) 2)
count_move n me Scanning words p L22 own c c' recent recent' e f keeps sharp h = tt
count_move n me Scanning words p L24 own c c' recent recent' e f keeps sharp h = tt
count_move n me (Updating w x) words p L30 own c c' recent recent' e f keeps sharp h = tt
count_move n me d words p L13 own c c' recent recent' e f keeps sharp h =
    either (CountMove n (suc own) c' recent') (nat_lt p.j n) _ _ (λ t. omega (arith, same_budget (round n) 2 c c' e))
    (λ t. omega (arith, same_budget (round n) 2 c c' e, not_lt p.j n t))
count_move n me d words p L15 own c c' recent recent' e f keeps sharp h =
    either (CountMove n (suc own) c' recent') (nat_lt p.j n) _ _ (λ t. omega (arith, same_budget (round n) 2 c c' e))
    (λ t. omega (arith, same_budget (round n) 2 c c' e, not_lt p.j n t))
count_move n me d words p L16 own c c' recent recent' e f keeps sharp h =
    let b : budget n c' ≡ budget n c + (4 * n + 4) = next_budget (round n) 2 c c' e in
    let less : moves n p < n = sharp refl in
    either (CountMove n (suc own) c' recent') (all_true (map (agree p) (places_to n))) _ _ (λ t. omega arith)
    (λ t. (omega arith, omega arith, omega arith, omega arith, t))
count_move n me d words p L17 own c c' recent recent' e f keeps sharp h =
    let more : moves n p < moves n (counted_row n p) =
    after_count n p h.4 (counted_row n p) (λ k i. for_each_at n (counted p) p.moved k i) in
    omega (arith, same_budget (round n) 2 c c' e)
count_move n me d words p L18 own c c' recent recent' e f keeps sharp h =
    whether (CountMove n (suc own) c' recent') (first_to d words p) (first_true 1 (map (at_limit p) (places_to n)))
    (λ none. omega (arith, same_budget (round n) 2 c c' e)) (λ k found. omega (arith, same_budget (round n) 2 c c' e))
count_move n me d words p k own c c' recent recent' e f keeps sharp h = omega (arith, same_budget (round n) 2 c c' e)

-- the bounds at each line of a scan
pub collects_le : (n : ℕ) (p : Variables) (k : ProgramCounter) (own c recent : ℕ) → 0 < n → VariablesAt n p k →
    ((k ≡ L16) → moves n p < n) → Count n p own c recent k → IsScanLine (in_update k) → c + tests k ≤ n
collects_le n p L16 own c recent pos keeps sharp h s = omega (arith, sharp refl)
collects_le n p k own c recent pos keeps sharp h s = omega (arith, moves_le n p)

own_all : (n c own : ℕ) → c ≤ n → own ≤ budget n c + 4 * n → own + 1 ≤ 4 * (n * n) + 8 * n + 7
own_all n c own le h =
    let e : n * (4 * n + 4) ≡ 4 * (n * n) + 4 * n = grind arith in omega (arith, budget_le (round n) 2 c n le)

pub own_le : (n : ℕ) (p : Variables) (k : ProgramCounter) (own c recent : ℕ) → VariablesAt n p k →
    Count n p own c recent k → c ≤ n → IsScanLine (in_update k) → own + 1 ≤ 4 * (n * n) + 8 * n + 7
own_le n p L10 own c recent keeps h le s = omega arith
own_le n p L11 own c recent keeps h le s = omega arith
own_le n p k own c recent keeps h le s = own_all n c own le (omega arith)
