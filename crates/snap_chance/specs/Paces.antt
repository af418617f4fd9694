-- A turn of a schedule by its pace: a crash; or steps of one process, before which it may call an operation.
use Rattle.std.specs.Prelude.{ℕ, ◌%◌, ◌||◌, List, [], ◌∷◌, nat_eq, nat_lt, if◌then◌else◌}
use Rattle.snap_semantics.specs.declared.process.Item.{Item}
use Rattle.snap_semantics.specs.declared.process.Item.TheVariants.{Crash}
use Rattle.snap_chance.specs.Plan.{Plan}
use Rattle.snap_chance.specs.Stories.{duel_turn, witness_turn}
use Rattle.snap_chance.specs.Turns.{asked_items, burst_turn, coin_turn, interrupted_turn, process_of, round_turn}
use Rattle.snap_chance.specs.declared.draws.Draws.{Draws}
use Rattle.snap_chance.specs.declared.plan.Pace.{Pace}
use Rattle.snap_chance.specs.declared.plan.Pace.TheVariants.{Coins, Bursts, Interruptions, Rounds}
use Rattle.snap_chance.specs.declared.plan.Pace.TheVariants.{Witnesses, Duels, Mixed}
use Rattle.snap_chance.specs.declared.turns.Turn.{Turn}

-- a turn of a run of each kind in turn: of eight runs two are bursts, two interruptions, two duels, one has witnesses,
-- and one rounds
abbrev pub mixed_turn : Plan → (k t : ℕ) → Draws → Turn
mixed_turn p k t d =
    if nat_eq (k % 8) 7 then round_turn p k t d
    else if nat_eq (k % 8) 5 then witness_turn p k t d
    else if nat_eq (k % 8) 4 || nat_eq (k % 8) 6 then duel_turn p k t d
    else if nat_eq (k % 8) 1 || nat_eq (k % 8) 3 then interrupted_turn p k t d
    else burst_turn p k t d

-- a turn of this pace
abbrev pub turn_at : Pace → Plan → (k t : ℕ) → Draws → Turn
turn_at Coins p k t d = coin_turn p k t d
turn_at Bursts p k t d = burst_turn p k t d
turn_at Interruptions p k t d = interrupted_turn p k t d
turn_at Rounds p k t d = round_turn p k t d
turn_at Witnesses p k t d = witness_turn p k t d
turn_at Duels p k t d = duel_turn p k t d
turn_at Mixed p k t d = mixed_turn p k t d

-- turn t of run k, where it is no crash
abbrev pub turn_of : Plan → (k t : ℕ) → Draws → Turn
turn_of p k t d = turn_at p.pace p k t d

-- the items of turn t of run k
abbrev pub turn_items : Plan → (k t : ℕ) → Draws → List Item
turn_items p k t d =
    if nat_lt (d.crash % 1000) p.crashes then Crash (process_of p d) ∷ [] else asked_items (turn_of p k t d)
