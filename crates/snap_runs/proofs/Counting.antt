-- Lemmas about `count`, the number of items of a run between two others
-- that pass a test: with one more item, and from a later one on.
use Rattle.std.specs.Prelude.{◌≡◌, ℕ, zero, suc, ◌+◌, ◌<◌, ◌≤◌, Bool, true, false, ◌&&◌, nat_lt, if◌then◌else◌, refl}
use Rattle.std.proofs.Common.{sym, ◌∙◌, ap, subst, arith}
use Rattle.snap_runs.specs.Run.{Run, item, outcome}
use Rattle.snap_runs.specs.Scan.{count, steps, is_not_skipped, takes_step, own_steps}
use Rattle.snap_runs.proofs.Computing.{lt_true, lt_false, lt_from}

-- none where there are no items
pub count_none : (test : ℕ → Bool) (c e : ℕ) → e ≤ c → count test c e ≡ 0
count_none test c zero h = refl
count_none test c (suc e) h =
    ap (λ b. if b && test (suc e) then suc (count test c e) else count test c e) (lt_false c (suc e) h)
    ∙ count_none test c e (omega arith)

-- one more item
pub count_next : (test : ℕ → Bool) (c e : ℕ) → c ≤ e →
    count test c (suc e) ≡ (if test (suc e) then suc (count test c e) else count test c e)
count_next test c e h =
    ap (λ b. if b && test (suc e) then suc (count test c e) else count test c e) (lt_true c (suc e) (omega arith))

-- fewer from a later item on
pub count_later : (test : ℕ → Bool) (c c' e : ℕ) → c ≤ c' → count test c' e ≤ count test c e
count_later test c c' zero h = omega arith
count_later test c c' (suc e) h =
    both_more (nat_lt c' (suc e)) (nat_lt c (suc e)) (test (suc e)) (count test c' e) (count test c e)
    (λ is. let lt : c' < suc e = lt_from c' (suc e) is in lt_true c (suc e) (omega arith)) (count_later test c c' e h)
  where
    both_more : (later sooner passes : Bool) (x y : ℕ) → (later ≡ true → sooner ≡ true) → x ≤ y →
        (if later && passes then suc x else x) ≤ (if sooner && passes then suc y else y)
    both_more true true true x y f h = omega arith
    both_more true true false x y f h = h
    both_more true false passes x y f h = absurd (let e : false ≡ true = f refl in cc)
    both_more false true true x y f h = omega arith
    both_more false true false x y f h = h
    both_more false false passes x y f h = h

pub count_not : (test : ℕ → Bool) (c e : ℕ) → c ≤ e → test (suc e) ≡ false → count test c (suc e) ≡ count test c e
count_not test c e h n = count_next test c e h ∙ ap (λ b. if b then suc (count test c e) else count test c e) n

-- a number that is one more where a test passes
pub add_one : (b : Bool) (x : ℕ) → (if b then suc x else x) ≡ x + (if b then 1 else 0)
add_one true x = omega arith
add_one false x = omega arith

pub one_more : (b : Bool) (x : ℕ) → (if b then suc x else x) ≤ x + 1
one_more true x = omega arith
one_more false x = omega arith

-- at most one more where the middle one of three tests passes
pub inner_more : (s b o : Bool) (x : ℕ) → (if s && (b && o) then suc x else x) ≤ x + (if b then 1 else 0)
inner_more true true true x = omega arith
inner_more _ _ _ x = omega arith

-- an item adds one to the own steps of a process at most, and none where it is no step
pub own_next : (r : Run) (i c t : ℕ) → c ≤ t → own_steps r i c (suc t) ≤ own_steps r i c t + 1
own_next r i c t le =
    subst (λ y. y ≤ own_steps r i c t + 1) (sym (count_next (takes_step r i) c t le))
    (one_more (takes_step r i (suc t)) (own_steps r i c t))

pub own_same : (r : Run) (i c t : ℕ) → c ≤ t → steps i (item r (suc t)) ≡ false →
    own_steps r i c (suc t) ≡ own_steps r i c t
own_same r i c t le none = count_not (takes_step r i) c t le (ap (λ b. b && is_not_skipped (outcome r (suc t))) none)
