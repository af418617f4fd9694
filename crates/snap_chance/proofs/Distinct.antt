-- In the order of priorities that chance draws for a schedule, each process is there exactly once
-- (`HasDistinctPriorities`).
use Rattle.std.proofs.Common.{◌≡◌, ℕ, zero, suc, ◌+◌, ◌%◌, ◌<◌, ◌≤◌, Bool, List, [], ◌∷◌, inl, inr, nat_eq}
use Rattle.std.proofs.Common.{if◌then◌else◌, refl, ap, ◌∙◌, arith}
use Rattle.std.specs.Prelude.{insert}
use Rattle.std.proofs.lemmas.Bool.{cases_eq, eq-eqb, ne_eqb}
use Rattle.rand_core.specs.Stream.{Stream, next_u64}
use Rattle.snap_chance.specs.Plan.{Plan}
use Rattle.snap_chance.specs.Priorities.{HasDistinctPriorities, order_of, share, times_in}
use Rattle.snap_chance.specs.declared.priorities.Mover.{Mover}

either_first : (a b : Bool) (n : ℕ) → (if a then suc (if b then suc n else n) else (if b then suc n else n))
    ≡ (if b then suc (if a then suc n else n) else (if a then suc n else n))
either_first a b n = grind arith

-- the place at which a process is put in does not matter
times_with : (i k : ℕ) (m : Mover) (xs : List Mover) → times_in i (insert xs k m) ≡ times_in i (m ∷ xs)
times_with i zero m xs = refl
times_with i (suc k) m [] = refl
times_with i (suc k) m (x ∷ xs) =
    ap (λ (n : ℕ). if nat_eq x.process i then suc n else n) (times_with i k m xs)
    ∙ either_first (nat_eq x.process i) (nat_eq m.process i) (times_in i xs)

-- one process more
one_more : (p : Plan) (i c : ℕ) (s : Stream)
    → times_in i (order_of p (suc c) s).0
    ≡ (if nat_eq (c + 1) i then suc (times_in i (order_of p c s).0) else times_in i (order_of p c s).0)
one_more p i c s =
    let before = order_of p c s in
    times_with i ((next_u64 before.1).0 % (c + 1)) (record { process = c + 1; left = share p }) before.0

-- the processes that come later are not in the order yet
not_yet : (p : Plan) (i c : ℕ) (s : Stream) → c < i → times_in i (order_of p c s).0 ≡ 0
not_yet p i zero s lt = refl
not_yet p i (suc c) s lt =
    one_more p i c s
    ∙ ap (λ (b : Bool). if b then suc (times_in i (order_of p c s).0) else times_in i (order_of p c s).0)
    (ne_eqb (c + 1) i (λ same. omega (arith, same, lt)))
    ∙ not_yet p i c s (omega arith)

once : (p : Plan) (i c : ℕ) (s : Stream) → 0 < i → i ≤ c → times_in i (order_of p c s).0 ≡ 1
once p i zero s some le = absurd (omega arith)
once p i (suc c) s some le =
    let count = times_in i (order_of p c s).0 in
    one_more p i c s ∙ elim (cases_eq (c + 1) i) [
      | inl same ↦ ap (λ (b : Bool). if b then suc count else count) (eq-eqb (c + 1) i same)
          ∙ ap suc (not_yet p i c s (omega (arith, same)))
      | inr other ↦ ap (λ (b : Bool). if b then suc count else count) (ne_eqb (c + 1) i other)
          ∙ once p i c s some (omega (arith, other, le))
    ]

pub distinct : (p : Plan) (s : Stream) → HasDistinctPriorities p s
distinct p s i one = once p i p.shape.n s one.0 one.1
