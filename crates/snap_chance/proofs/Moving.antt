-- Turns by priorities, in schedules that chance makes: each is of a process that exists, and has at most 128 steps.
use Rattle.std.proofs.Common.{◌≡◌, ℕ, zero, suc, ◌+◌, ◌-◌, ◌*◌, ◌%◌, ◌<◌, ◌≤◌, List, [], ◌∷◌, ◌++◌, Option, Some}
use Rattle.std.proofs.Common.{None, drop, length, take, nat_eq, nat_lt, refl, sym}
use Rattle.std.proofs.Common.{ap, subst, ◌∙◌, append_assoc, arith}
use Rattle.std.specs.Prelude.{insert}
use Rattle.std.specs.List.{AllByRecursion, list_any}
use Rattle.std.proofs.lemmas.List.{length-append}
use Rattle.rand_core.specs.Stream.{Stream, next_u64}
use Rattle.snap_words.specs.Shape.{IsOneOf}
use Rattle.snap_semantics.specs.declared.process.Item.{Item}
use Rattle.snap_semantics.specs.declared.process.Item.TheVariants.{Crash}
use Rattle.snap_semantics.specs.declared.process.Op.TheVariants.{Scan}
use Rattle.snap_semantics.specs.Table.{who}
use Rattle.snap_sched.proofs.Lines.{all_more}
use Rattle.snap_chance.specs.Chance.{items_by, turns_from}
use Rattle.snap_chance.specs.Draws.{draws}
use Rattle.snap_chance.specs.Plan.{IsPlan, Plan}
use Rattle.snap_chance.specs.Priorities.{asked_turn, burst_move, changes_of, lowered_at, move_at, move_items}
use Rattle.snap_chance.specs.Priorities.{moves_from, order_of, passed, role_move, share}
use Rattle.snap_chance.specs.Turns.{asked_items, interrupted_process, scanning_turn}
use Rattle.snap_chance.specs.Turns.{update_of, updating_turn}
use Rattle.snap_chance.specs.Paces.{turn_items}
use Rattle.snap_chance.specs.declared.draws.Draws.{Draws}
use Rattle.snap_chance.specs.declared.plan.Pace.{Pace}
use Rattle.snap_chance.specs.declared.plan.Pace.TheVariants.{Coins, Bursts, Interruptions, Rounds}
use Rattle.snap_chance.specs.declared.plan.Pace.TheVariants.{Witnesses, Duels, Mixed}
use Rattle.snap_chance.specs.declared.priorities.Mover.{Mover}
use Rattle.snap_chance.specs.declared.turns.Turn.{Turn}
use Rattle.snap_chance.proofs.Turning.{AreTurn, are_turn, asked_are_turn, burst_short, either}
use Rattle.snap_chance.proofs.Turning.{scanning_is_turn, updating_is_turn}

-- a turn of process i, of few steps
pub record IsMove (i : ℕ) (a : Turn) : Type 0 where
  pub same : a.process ≡ i
  pub short : a.steps ≤ 128

burst_is_move : (p : Plan) (k t i : ℕ) (d : Draws) → IsMove i (burst_move p k t i d)
burst_is_move p k t i d = record { same = refl; short = burst_short d }

role_is_move : (p : Plan) (k t i : ℕ) (d : Draws) → 0 < p.shape.n → IsMove i (role_move p k t i d)
role_is_move p k t i d some =
    either (IsMove i) (nat_eq i (interrupted_process p k)) (asked_turn i Scan (scanning_turn p k d).steps)
    (asked_turn i (update_of p k t i d) (updating_turn p k t d).steps)
    (record { same = refl; short = (scanning_is_turn p k d some).short })
    (record { same = refl; short = (updating_is_turn p k t d some).short })

is_move : (g : Pace) (p : Plan) (k t i : ℕ) (d : Draws) → 0 < p.shape.n → IsMove i (move_at g p k t i d)
is_move Coins p k t i d some = record { same = refl; short = omega arith }
is_move Bursts p k t i d some = burst_is_move p k t i d
is_move Interruptions p k t i d some = role_is_move p k t i d some
is_move Rounds p k t i d some = role_is_move p k t i d some
is_move Witnesses p k t i d some = role_is_move p k t i d some
is_move Duels p k t i d some = role_is_move p k t i d some
is_move Mixed p k t i d some =
    either (IsMove i) (nat_eq (k % 2) 0) (burst_move p k t i d) (role_move p k t i d)
    (burst_is_move p k t i d) (role_is_move p k t i d some)

pub move_short : (p : Plan) (k t i : ℕ) (d : Draws) → IsPlan p → (move_at p.pace p k t i d).steps ≤ 128
move_short p k t i d plan = (is_move p.pace p k t i d plan.shape.0.0).short

-- an order of processes that are there
abbrev pub AreThere : ℕ → List Mover → Type 0
AreThere n order = AllByRecursion (λ m. IsOneOf n m.process) order

there_taken : (n k : ℕ) (xs : List Mover) → AreThere n xs → AreThere n (take k xs)
there_taken n zero xs h = tt
there_taken n (suc k) [] h = tt
there_taken n (suc k) (x ∷ xs) h = (h.0, there_taken n k xs h.1)

there_left : (n k : ℕ) (xs : List Mover) → AreThere n xs → AreThere n (drop k xs)
there_left n zero xs h = h
there_left n (suc k) [] h = tt
there_left n (suc k) (x ∷ xs) h = there_left n k xs h.1

there_both : (n : ℕ) (xs ys : List Mover) → AreThere n xs → AreThere n ys → AreThere n (xs ++ ys)
there_both n [] ys h g = g
there_both n (x ∷ xs) ys h g = (h.0, there_both n xs ys h.1 g)

-- one process more in an order
pub there_with : (n k : ℕ) (m : Mover) (xs : List Mover) → AreThere n xs →
    IsOneOf n m.process → AreThere n (insert xs k m)
there_with n k m xs h one = there_both n (take k xs) (m ∷ drop k xs) (there_taken n k xs h) (one, there_left n k xs h)

there_lowered : (n t : ℕ) (changes : List ℕ) (order : List Mover) → AreThere n order →
    AreThere n (lowered_at t changes order)
there_lowered n t changes order h =
    either (AreThere n) (list_any (λ c. nat_eq c t) changes) (drop 1 order ++ take 1 order) order
    (there_both n (drop 1 order) (take 1 order) (there_left n 1 order h) (there_taken n 1 order h)) h

there_passed : (n : ℕ) (order : List Mover) → AreThere n order → AreThere n (passed order)
there_passed n [] h = tt
there_passed n (m ∷ order) h =
    either (AreThere n) (nat_lt 1 m.left) (record { process = m.process; left = m.left - 1 } ∷ order) order h h.1

-- the order after a turn
pub there_after : (n t : ℕ) (changes : List ℕ) (order now after : List Mover) → now ≡ lowered_at t changes order →
    after ≡ passed now → AreThere n order
    → AreThere n now × AreThere n after
there_after n t changes order now after lowered is h =
    let here : AreThere n now = subst (AreThere n) (sym lowered) (there_lowered n t changes order h) in
    (here, subst (AreThere n) (sym is) (there_passed n now here))

-- the items of a turn are few, and of processes that are there
pub are_move : (p : Plan) (k t : ℕ) (order : List Mover) (d : Draws) → 0 < p.shape.n → AreThere p.shape.n order →
    AreTurn p.shape.n (move_items p k t order d)
are_move p k t [] d some h = record { there = tt; few = omega arith }
are_move p k t (m ∷ order) d some h =
    let a = move_at p.pace p k t m.process d in
    let move = is_move p.pace p k t m.process d some in
    let there : IsOneOf p.shape.n a.process = subst (IsOneOf p.shape.n) (sym move.same) h.0 in
    either (AreTurn p.shape.n) (nat_lt (d.crash % 1000) p.crashes) (Crash m.process ∷ []) (asked_items a)
    (record { there = (h.0, tt); few = omega arith })
    (asked_are_turn p.shape.n a.process a.steps a.call there move.short)

-- one turn more
pub one_more_move : (p : Plan) (k count t : ℕ) (s u : Stream) (d : Draws) (changes : List ℕ)
    (order now after : List Mover) (old new all : List Item) → t < count
    → (d, u) ≡ draws s → now ≡ lowered_at (t + 1) changes order → after ≡ passed now →
    new ≡ old ++ move_items p k (t + 1) now d
    → old ++ moves_from p k (t + 1) (count - t) changes order s ≡ all →
    new ++ moves_from p k (t + 1 + 1) (count - (t + 1)) changes after u ≡ all
one_more_move p k count t s u d changes order now after old new all below step lowered is put so_far =
    let e : count - t ≡ suc (count - (t + 1)) = omega arith in
    let here = lowered_at (t + 1) changes order in
    let rest = moves_from p k (t + 1 + 1) (count - (t + 1)) changes in
    ap (λ (xs : List Item). xs ++ rest after u) put
    ∙ append_assoc old (move_items p k (t + 1) now d) (rest after u)
    ∙ ap (λ (ms : List Mover). old ++ (move_items p k (t + 1) now d ++ rest ms u)) is
    ∙ ap (λ (ms : List Mover). old ++ (move_items p k (t + 1) ms d ++ rest (passed ms) u)) lowered
    ∙ ap (λ (x : Draws × Stream). old ++ (move_items p k (t + 1) here x.0 ++ rest (passed here) x.1)) step
    ∙ ap (λ (n : ℕ). old ++ moves_from p k (t + 1) n changes order s) (sym e)
    ∙ so_far

-- the schedules that priorities give
there_ordered : (p : Plan) (n count : ℕ) (s : Stream) → count ≤ n → AreThere n (order_of p count s).0
there_ordered p n zero s le = tt
there_ordered p n (suc i) s le =
    let before = order_of p i s in
    there_with n ((next_u64 before.1).0 % (i + 1)) (record { process = i + 1; left = share p }) before.0
    (there_ordered p n i s (omega arith)) (omega arith, omega arith)

-- the items of a run are few, and of processes that are there
pub record AreItems (n turns : ℕ) (xs : List Item) : Type 0 where
  pub there : AllByRecursion (λ x. IsOneOf n (who x)) xs
  pub few : length xs ≤ turns * 129

no_items : (n : ℕ) → AreItems n 0 []
no_items n = record { there = tt; few = omega arith }

-- the items of a turn, and those of the turns that are left
turn_first : (n left : ℕ) (xs ys : List Item) → AreTurn n xs → AreItems n left ys → AreItems n (suc left) (xs ++ ys)
turn_first n left xs ys turn are = record {
  there = all_more (IsOneOf n) xs ys turn.there are.there;
  few = (let here = turn.few in let rest = are.few in omega (arith, length-append xs ys, here, rest));
}

moves_are : (p : Plan) (k t left : ℕ) (changes : List ℕ) (order : List Mover) (s : Stream) → 0 < p.shape.n →
    AreThere p.shape.n order → AreItems p.shape.n left (moves_from p k t left changes order s)
moves_are p k t zero changes order s some h = no_items p.shape.n
moves_are p k t (suc left) changes order s some h =
    let now = lowered_at t changes order in
    let here = there_lowered p.shape.n t changes order h in
    turn_first p.shape.n left (move_items p k t now (draws s).0)
    (moves_from p k (t + 1) left changes (passed now) (draws s).1) (are_move p k t now (draws s).0 some here)
    (moves_are p k (t + 1) left changes (passed now) (draws s).1 some (there_passed p.shape.n now here))

-- the turns of drawn processes
turns_are : (p : Plan) (k t left : ℕ) (s : Stream) → 0 < p.shape.n → AreItems p.shape.n left (turns_from p k t left s)
turns_are p k t zero s some = no_items p.shape.n
turns_are p k t (suc left) s some =
    turn_first p.shape.n left (turn_items p k t (draws s).0) (turns_from p k (t + 1) left (draws s).1)
    (are_turn p k t (draws s).0 some) (turns_are p k (t + 1) left (draws s).1 some)

pub are_items : (o : Option ℕ) (p : Plan) (k : ℕ) (s : Stream) → 0 < p.shape.n →
    AreItems p.shape.n p.turns (items_by o p k s)
are_items None p k s some = turns_are p k 1 p.turns s some
are_items (Some depth) p k s some =
    let order = order_of p p.shape.n s in
    let changes = changes_of p (depth - 1) order.1 in
    moves_are p k 1 p.turns changes.0 order.0 changes.1 some (there_ordered p p.shape.n p.shape.n s (omega arith))
