-- Turns of processes that are drawn, in schedules that chance makes: each is of a process that exists, and has at
-- most 128 steps (`IsTurn`).
use Rattle.std.proofs.Common.{◌≡◌, ℕ, zero, suc, ◌+◌, ◌-◌, ◌/◌, ◌%◌, ◌^◌, ◌<◌, ◌≤◌, Bool, true, false, List, [], ◌∷◌}
use Rattle.std.proofs.Common.{◌++◌, Option, Some, None, length, replicate, nat_eq, nat_lt, ◌||◌, if◌then◌else◌, sym}
use Rattle.std.proofs.Common.{ap, subst, ◌∙◌, append_assoc, arith}
use Rattle.std.proofs.Math.Pow.{pow_mono}
use Rattle.std.proofs.lemmas.List.{length-append, length-replicate}
use Rattle.std.proofs.lemmas.Nat.{pow_pos}
use Rattle.std.specs.List.{AllByRecursion}
use Rattle.rand_core.specs.Stream.{Stream}
use Rattle.snap_words.specs.Shape.{IsOneOf}
use Rattle.snap_semantics.specs.declared.process.Item.{Item}
use Rattle.snap_semantics.specs.declared.process.Item.TheVariants.{Step, Crash}
use Rattle.snap_semantics.specs.declared.process.Op.{Op}
use Rattle.snap_semantics.specs.Table.{who}
use Rattle.snap_sched.proofs.Lines.{all_more}
use Rattle.snap_chance.specs.Chance.{turns_from}
use Rattle.snap_chance.specs.Draws.{draws}
use Rattle.snap_chance.specs.Plan.{IsPlan, Plan}
use Rattle.snap_chance.specs.Turns.{asked_items, burst_of, burst_turn, call_items, coin_turn, interrupted_turn}
use Rattle.snap_chance.specs.Turns.{process_of, round_scan, round_turn, round_update}
use Rattle.snap_chance.specs.Turns.{scanning_turn, updating_turn, whole_update}
use Rattle.snap_chance.specs.Stories.{duel_turn, scene_turn, extent_of, witness_turn}
use Rattle.snap_chance.specs.Paces.{mixed_turn, turn_at, turn_items, turn_of}
use Rattle.snap_chance.specs.declared.stories.Scene.{Scene}
use Rattle.snap_chance.specs.declared.stories.Extent.{Extent}
use Rattle.snap_chance.specs.declared.stories.Extent.TheVariants.{Whole, Early, Late, Part, Any}
use Rattle.snap_chance.specs.declared.draws.Draws.{Draws}
use Rattle.snap_chance.specs.declared.plan.Pace.{Pace}
use Rattle.snap_chance.specs.declared.plan.Pace.TheVariants.{Coins, Bursts, Interruptions, Rounds}
use Rattle.snap_chance.specs.declared.plan.Pace.TheVariants.{Witnesses, Duels, Mixed}
use Rattle.snap_chance.specs.declared.turns.Turn.{Turn}

-- a turn of a process that is there, of few steps
pub record IsTurn (n : ℕ) (a : Turn) : Type 0 where
  pub there : IsOneOf n a.process
  pub short : a.steps ≤ 128

process_there : (x n : ℕ) → 0 < n → IsOneOf n (x % n + 1)
process_there x n some = (omega arith, omega arith)

pub burst_short : (d : Draws) → burst_of d ≤ 128
burst_short d =
    let below : d.scale % 8 ≤ 7 = omega arith in
    let scale : 2 ^ (d.scale % 8) ≤ 2 ^ 7 = pow_mono below in
    let some : 0 < 2 ^ (d.scale % 8) = pow_pos (d.scale % 8) in
    let rest : d.length % 2 ^ (d.scale % 8) < 2 ^ (d.scale % 8) = omega arith in
    omega arith

pub either : {A : Type 0} (P : A → Type 0) (b : Bool) (x y : A) → P x → P y → P (if b then x else y)
either P true x y h k = h
either P false x y h k = k

whole_short : (p : Plan) → whole_update p ≤ 128
whole_short p = omega arith

part_short : (x m : ℕ) → 0 < m → m ≤ 128 → x % m + 1 ≤ 128
part_short x m some few = omega arith

whole_long : (p : Plan) → 0 < p.shape.n → 24 ≤ whole_update p
whole_long p some = omega arith

whole_some : (p : Plan) → 0 < p.shape.n → 0 < whole_update p
whole_some p some = omega arith

burst_is_turn : (p : Plan) (k t : ℕ) (d : Draws) → 0 < p.shape.n → IsTurn p.shape.n (burst_turn p k t d)
burst_is_turn p k t d some = record { there = process_there d.process p.shape.n some; short = burst_short d }

coin_is_turn : (p : Plan) (k t : ℕ) (d : Draws) → 0 < p.shape.n → IsTurn p.shape.n (coin_turn p k t d)
coin_is_turn p k t d some = record { there = process_there d.process p.shape.n some; short = omega arith }

pub scanning_is_turn : (p : Plan) (k : ℕ) (d : Draws) → 0 < p.shape.n → IsTurn p.shape.n (scanning_turn p k d)
scanning_is_turn p k d some = record { there = process_there (k / 2) p.shape.n some; short = omega arith }

pub updating_is_turn : (p : Plan) (k t : ℕ) (d : Draws) → 0 < p.shape.n → IsTurn p.shape.n (updating_turn p k t d)
updating_is_turn p k t d some =
    let whole = whole_update p in
    record {
      there = process_there d.process p.shape.n some;
      short =
          either (λ x. x ≤ 128) (nat_eq (d.call % 4) 0) (d.length % whole + 1) whole
          (part_short d.length whole (whole_some p some) (whole_short p)) (whole_short p);
    }

interrupted_is_turn : (p : Plan) (k t : ℕ) (d : Draws) → 0 < p.shape.n → IsTurn p.shape.n (interrupted_turn p k t d)
interrupted_is_turn p k t d some =
    either (IsTurn p.shape.n) (nat_eq (d.scale % 2) 0) (scanning_turn p k d) (updating_turn p k t d)
    (scanning_is_turn p k d some) (updating_is_turn p k t d some)

round_scan_is_turn : (p : Plan) (k : ℕ) (d : Draws) → 0 < p.shape.n → IsTurn p.shape.n (round_scan p k d)
round_scan_is_turn p k d some = record { there = process_there (k / 8 + 0) p.shape.n some; short = omega arith }

round_update_is_turn : (p : Plan) (k t : ℕ) (d : Draws) → 0 < p.shape.n → IsTurn p.shape.n (round_update p k t d)
round_update_is_turn p k t d some =
    record { there = process_there (k / 8 + (d.process % 2 + 1)) p.shape.n some; short = whole_short p }

round_is_turn : (p : Plan) (k t : ℕ) (d : Draws) → 0 < p.shape.n → IsTurn p.shape.n (round_turn p k t d)
round_is_turn p k t d some =
    either (IsTurn p.shape.n) (nat_eq (t % 3) 0) (round_scan p k d) (round_update p k t d)
    (round_scan_is_turn p k d some) (round_update_is_turn p k t d some)

extent_short : (g : Extent) (whole : ℕ) (d : Draws) → 24 ≤ whole → whole ≤ 128 → extent_of g whole d ≤ 128
extent_short Whole whole d some few = few
extent_short Early whole d some few = omega arith
extent_short Late whole d some few = omega arith
extent_short Part whole d some few = part_short d.length whole (omega arith) few
extent_short Any whole d some few =
    either (λ x. x ≤ 128) (nat_eq (d.scale % 2) 0) (d.length % whole + 1) whole
    (part_short d.length whole (omega arith) few) few

scene_is_turn : (p : Plan) (k t : ℕ) (s : Scene) (d : Draws) → 0 < p.shape.n → IsTurn p.shape.n (scene_turn p k t s d)
scene_is_turn p k t s d some = record {
  there = process_there (k / 8 + s.number) p.shape.n some;
  short = extent_short s.extent (whole_update p) d (whole_long p some) (whole_short p);
}

mixed_is_turn : (p : Plan) (k t : ℕ) (d : Draws) → 0 < p.shape.n → IsTurn p.shape.n (mixed_turn p k t d)
mixed_is_turn p k t d some =
    let is : Turn → Type 0 = IsTurn p.shape.n in
    either is (nat_eq (k % 8) 7) (round_turn p k t d) _ (round_is_turn p k t d some)
    (either is (nat_eq (k % 8) 5) (witness_turn p k t d) _ (scene_is_turn p k t _ d some)
    (either is (nat_eq (k % 8) 4 || nat_eq (k % 8) 6) (duel_turn p k t d) _ (scene_is_turn p k t _ d some)
    (either is (nat_eq (k % 8) 1 || nat_eq (k % 8) 3) (interrupted_turn p k t d) (burst_turn p k t d)
    (interrupted_is_turn p k t d some) (burst_is_turn p k t d some))))

is_turn_at : (g : Pace) (p : Plan) (k t : ℕ) (d : Draws) → 0 < p.shape.n → IsTurn p.shape.n (turn_at g p k t d)
is_turn_at Coins p k t d some = coin_is_turn p k t d some
is_turn_at Bursts p k t d some = burst_is_turn p k t d some
is_turn_at Interruptions p k t d some = interrupted_is_turn p k t d some
is_turn_at Rounds p k t d some = round_is_turn p k t d some
is_turn_at Witnesses p k t d some = scene_is_turn p k t _ d some
is_turn_at Duels p k t d some = scene_is_turn p k t _ d some
is_turn_at Mixed p k t d some = mixed_is_turn p k t d some

pub is_turn : (p : Plan) (k t : ℕ) (d : Draws) → 0 < p.shape.n → IsTurn p.shape.n (turn_of p k t d)
is_turn p k t d some = is_turn_at p.pace p k t d some

pub turn_short : (p : Plan) (k t : ℕ) (d : Draws) → IsPlan p → (turn_of p k t d).steps ≤ 128
turn_short p k t d plan = (is_turn p k t d plan.shape.0.0).short

-- the items of a turn are few, and of processes that are there
pub record AreTurn (n : ℕ) (xs : List Item) : Type 0 where
  pub there : AllByRecursion (λ x. IsOneOf n (who x)) xs
  pub few : length xs ≤ 129

steps_there : (n count i : ℕ) → IsOneOf n i → AllByRecursion (λ x. IsOneOf n (who x)) (replicate count (Step i))
steps_there n zero i h = tt
steps_there n (suc count) i h = (h, steps_there n count i h)

steps_few : (count i : ℕ) → count ≤ 128 → length (replicate count (Step i)) ≤ 128
steps_few count i few = omega (arith, length-replicate count (Step i))

pub asked_are_turn : (n i count : ℕ) (call : Option Op) → IsOneOf n i → count ≤ 128 →
    AreTurn n (call_items i call ++ replicate count (Step i))
asked_are_turn n i count None h few =
    let fewer = steps_few count i few in
    record { there = steps_there n count i h; few = omega (arith, fewer) }
asked_are_turn n i count (Some op) h few =
    let fewer = steps_few count i few in
    record { there = (h, steps_there n count i h); few = omega (arith, fewer) }

pub are_turn : (p : Plan) (k t : ℕ) (d : Draws) → 0 < p.shape.n → AreTurn p.shape.n (turn_items p k t d)
are_turn p k t d some =
    let a = turn_of p k t d in
    let turn = is_turn p k t d some in
    either (AreTurn p.shape.n) (nat_lt (d.crash % 1000) p.crashes) (Crash (process_of p d) ∷ []) (asked_items a)
    (record { there = (process_there d.process p.shape.n some, tt); few = omega arith })
    (asked_are_turn p.shape.n a.process a.steps a.call turn.there turn.short)

-- one turn more, and the items are still few
pub longer : (n m : ℕ) (xs old new : List Item) → AreTurn n xs → new ≡ old ++ xs → length old ≤ m → length new ≤ m + 129
longer n m xs old new turn is few =
    let e : length new ≡ length old + length xs = ap length is ∙ length-append old xs in
    let short = turn.few in
    omega (arith, e, few, short)

-- one turn more, of a process that is there
pub still_there : (n : ℕ) (xs old new : List Item) → AreTurn n xs → new ≡ old ++ xs →
    AllByRecursion (λ x. IsOneOf n (who x)) old
    → AllByRecursion (λ x. IsOneOf n (who x)) new
still_there n xs old new turn is h =
    subst (AllByRecursion (λ x. IsOneOf n (who x))) (sym is) (all_more (IsOneOf n) old xs h turn.there)

-- the turns so far, with one more, and those that are left
pub one_more : (p : Plan) (k count t : ℕ) (s u : Stream) (d : Draws) (old new all : List Item) → t < count →
    (d, u) ≡ draws s
    → new ≡ old ++ turn_items p k (t + 1) d → old ++ turns_from p k (t + 1) (count - t) s ≡ all →
    new ++ turns_from p k (t + 1 + 1) (count - (t + 1)) u ≡ all
one_more p k count t s u d old new all below step put so_far =
    let e : count - t ≡ suc (count - (t + 1)) = omega arith in
    let rest = turns_from p k (t + 1 + 1) (count - (t + 1)) in
    ap (λ (xs : List Item). xs ++ rest u) put
    ∙ append_assoc old (turn_items p k (t + 1) d) (rest u)
    ∙ ap (λ (x : Draws × Stream). old ++ (turn_items p k (t + 1) x.0 ++ rest x.1)) step
    ∙ ap (λ (n : ℕ). old ++ turns_from p k (t + 1) n s) (sym e)
    ∙ so_far
