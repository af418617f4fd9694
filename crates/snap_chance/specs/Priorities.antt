-- Turns by priorities (probabilistic concurrency testing). The processes are put in an order by chance, the highest
-- priority first, and all have as many turns. The first in the order moves, turn after turn, until its turns are used
-- up. At a few turns, which are drawn beforehand, it goes to the end of the order before it would have moved.
use Rattle.std.specs.Prelude.{◌≡◌, ℕ, zero, suc, ◌+◌, ◌-◌, ◌/◌, ◌%◌, List, [], ◌∷◌, ◌++◌, Some, drop, insert, max}
use Rattle.std.specs.Prelude.{nat_eq, nat_lt, take, if◌then◌else◌}
use Rattle.std.specs.List.{list_any}
use Rattle.rand_core.specs.Stream.{Stream, next_u64}
use Rattle.snap_words.specs.Shape.{IsOneOf}
use Rattle.snap_semantics.specs.declared.process.Item.{Item}
use Rattle.snap_semantics.specs.declared.process.Item.TheVariants.{Crash}
use Rattle.snap_semantics.specs.declared.process.Op.{Op}
use Rattle.snap_semantics.specs.declared.process.Op.TheVariants.{Scan}
use Rattle.snap_chance.specs.Draws.{draws}
use Rattle.snap_chance.specs.Plan.{Plan}
use Rattle.snap_chance.specs.Turns.{asked_items, burst_of, interrupted_process, operation_of, scanning_turn}
use Rattle.snap_chance.specs.Turns.{update_of, updating_turn}
use Rattle.snap_chance.specs.declared.draws.Draws.{Draws}
use Rattle.snap_chance.specs.declared.plan.Pace.{Pace}
use Rattle.snap_chance.specs.declared.plan.Pace.TheVariants.{Coins, Bursts, Interruptions, Rounds}
use Rattle.snap_chance.specs.declared.plan.Pace.TheVariants.{Witnesses, Duels, Mixed}
use Rattle.snap_chance.specs.declared.priorities.Mover.{Mover}
use Rattle.snap_chance.specs.declared.turns.Turn.{Turn}

-- how many turns each process has: together no fewer than the schedule
abbrev pub share : Plan → ℕ
share p = (p.turns + (p.shape.n - 1)) / p.shape.n

-- the first so many processes in an order, each order as likely as any other: each is put in
-- somewhere among those before it
abbrev pub order_of : Plan → ℕ → Stream → List Mover × Stream
order_of p zero s = ([], s)
order_of p (suc i) s =
    let before = order_of p i s in
    let drawn = next_u64 before.1 in
    (insert before.0 (drawn.0 % (i + 1)) (record { process = i + 1; left = share p }), drawn.1)

-- how many times process i stands in an order
abbrev pub times_in : (i : ℕ) → List Mover → ℕ
times_in i [] = 0
times_in i (m ∷ order) = if nat_eq m.process i then suc (times_in i order) else times_in i order

-- No two processes have the same priority: each stands in the order once.
abbrev pub HasDistinctPriorities : Plan → Stream → Type 0
HasDistinctPriorities p s = (i : ℕ) → IsOneOf p.shape.n i → times_in i (order_of p p.shape.n s).0 ≡ 1

-- a number of turns at which the process that moves is lowered
abbrev pub changes_of : Plan → ℕ → Stream → List ℕ × Stream
changes_of p zero s = ([], s)
changes_of p (suc count) s =
    let before = changes_of p count s in
    let drawn = next_u64 before.1 in
    (before.0 ++ (drawn.0 % max p.turns 1 + 1) ∷ [], drawn.1)

-- the order at turn t, for which the first goes to its end where t is one of these turns
abbrev pub lowered_at : (t : ℕ) → (changes : List ℕ) → List Mover → List Mover
lowered_at t changes order = if list_any (λ c. nat_eq c t) changes then drop 1 order ++ take 1 order else order

-- the order behind a turn of its first, which leaves it with its last turn
abbrev pub passed : List Mover → List Mover
passed [] = []
passed (m ∷ order) = if nat_lt 1 m.left then record { process = m.process; left = m.left - 1 } ∷ order else order

-- a process that is asked for an operation, and takes so many steps
abbrev pub asked_turn : (i : ℕ) → Op → (steps : ℕ) → Turn
asked_turn i op steps = record { process = i; call = Some op; steps = steps }

-- a burst of steps of process i
abbrev pub burst_move : Plan → (k t i : ℕ) → Draws → Turn
burst_move p k t i d = asked_turn i (operation_of p k t i d) (burst_of d)

-- a few steps of the process that scans in run k, or an update of another one, whole or its first part
abbrev pub role_move : Plan → (k t i : ℕ) → Draws → Turn
role_move p k t i d =
    if nat_eq i (interrupted_process p k) then asked_turn i Scan (scanning_turn p k d).steps
    else asked_turn i (update_of p k t i d) (updating_turn p k t d).steps

-- a turn of process i, of this pace
abbrev pub move_at : Pace → Plan → (k t i : ℕ) → Draws → Turn
move_at Coins p k t i d = asked_turn i (operation_of p k t i d) 1
move_at Bursts p k t i d = burst_move p k t i d
move_at Interruptions p k t i d = role_move p k t i d
move_at Rounds p k t i d = role_move p k t i d
move_at Witnesses p k t i d = role_move p k t i d
move_at Duels p k t i d = role_move p k t i d
move_at Mixed p k t i d = if nat_eq (k % 2) 0 then burst_move p k t i d else role_move p k t i d

-- the items of turn t of run k, which is of the first in the order
abbrev pub move_items : Plan → (k t : ℕ) → List Mover → Draws → List Item
move_items p k t [] d = []
move_items p k t (m ∷ order) d =
    if nat_lt (d.crash % 1000) p.crashes then Crash m.process ∷ [] else asked_items (move_at p.pace p k t m.process d)

-- the items of so many turns of run k, the first of which is turn t
abbrev pub moves_from : Plan → (k t : ℕ) → ℕ → (changes : List ℕ) → List Mover → Stream → List Item
moves_from p k t zero changes order s = []
moves_from p k t (suc left) changes order s =
    let now = lowered_at t changes order in
    move_items p k t now (draws s).0 ++ moves_from p k (t + 1) left changes (passed now) (draws s).1

-- the items of run k, to this depth: the process that moves is lowered at one turn fewer than that
abbrev pub prioritized : Plan → (k depth : ℕ) → Stream → List Item
prioritized p k depth s =
    let order = order_of p p.shape.n s in
    let changes = changes_of p (depth - 1) order.1 in
    moves_from p k 1 p.turns changes.0 order.0 changes.1
