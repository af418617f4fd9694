-- `fill`: a process that steps alone through a loop over the places 1 to n, and fills a list, as a collect does.
use Rattle.std.specs.Prelude.{◌≡◌, ℕ, zero, suc, ◌+◌, ◌*◌, ◌-◌, ◌<◌, ◌≤◌, List, length, slice_set, refl}
use Rattle.std.proofs.Common.{◌∙◌, ap, subst, arith}
use Rattle.std.proofs.lemmas.List.{length-set}
use Rattle.snap_runs.proofs.Algorithm.{Algorithm}
use Rattle.snap_runs_sharp.proofs.Alone.{Alone, walk, walks}
use Rattle.snap_runs_sharp.proofs.Filling.{Filled, filled_none, filled_more}

-- A process with number `me` goes through the places 1 to n, by so many lines each: at place j it stands `at r j xs`,
-- with what else the loop changes in r; it puts `value j` there, and after place n it stands `beyond r xs`.
module _ {V P M R X : Type 0} (a : Algorithm V P M) (me lines n : ℕ) (at : R → ℕ → List X → Alone V P M)
    (beyond : R → List X → Alone V P M)
    (value : ℕ → X) (other : X)
    (next : (r : R) (j : ℕ) (xs : List X) → 0 < j → j < n → n ≤ length xs →
    (r' : R) × (walk a me lines (at r j xs) ≡ at r' (j + 1) (slice_set xs (j - 1) (value j))))
    (last : (r : R) (j : ℕ) (xs : List X) → 0 < j → j ≡ n → n ≤ length xs →
    (r' : R) × (walk a me lines (at r j xs) ≡ beyond r' (slice_set xs (j - 1) (value j)))) where
  -- what so many places leave
  abbrev Leaves : ℕ → R → ℕ → List X → Type 0
  Leaves count r j xs =
      (r' : R) × (ys : List X) × (walk a me (lines * count) (at r j xs) ≡ beyond r' ys) × (length ys ≡ length xs)
      × Filled value other (n + 1) ys

  fill_from : (s : ℕ) (r : R) (j : ℕ) (xs : List X) → j + s ≡ n → 0 < j → n ≤ length xs →
      Filled value other j xs → Leaves (suc s) r j xs
  fill_from zero r j xs to pos size filled =
      let end = last r j xs pos (omega arith) size in
      let one : lines * suc zero ≡ lines = omega arith in (
        end.0,
        slice_set xs (j - 1) (value j),
        ap (λ count. walk a me count (at r j xs)) one ∙ end.1,
        length-set xs (j - 1) (value j),
        filled_more value other j (n + 1) xs (value j) pos (omega arith) (omega arith) refl filled,
      )
  fill_from (suc s) r j xs to pos size filled =
      let step = next r j xs pos (omega arith) size in
      let ys = slice_set xs (j - 1) (value j) in
      let long : length ys ≡ length xs = length-set xs (j - 1) (value j) in
      let rest = fill_from s step.0 (j + 1) ys (omega arith) (omega arith) (omega arith)
      (filled_more value other j (j + 1) xs (value j) pos (omega arith) refl refl filled) in
      let more : lines * suc (suc s) ≡ lines + lines * suc s = omega arith in (
        rest.0,
        rest.1,
        walks a me lines (lines * suc s) (lines * suc (suc s)) (at r j xs) step.1 rest.2 more,
        rest.3 ∙ long,
        rest.4,
      )

  -- all the places
  pub fill : (r : R) (j : ℕ) (xs : List X) → j ≡ 1 → 1 ≤ n → n ≤ length xs → Leaves n r j xs
  fill r j xs first some size =
      let count : suc (n - 1) ≡ n = omega arith in
      subst (λ count. Leaves count r j xs) count
      (fill_from (n - 1) r j xs (omega arith) (omega arith) size (filled_none value other j xs (omega arith)))

-- a loop that changes nothing else
module _ {V P M X : Type 0} (a : Algorithm V P M) (me lines n : ℕ) (at : ℕ → List X → Alone V P M)
    (beyond : List X → Alone V P M) (value : ℕ → X) (other : X) where
  -- the list is filled with the values
  abbrev pub Collected : List X → ℕ → Type 0
  Collected xs j =
      (ys : List X) × (walk a me (lines * n) (at j xs) ≡ beyond ys) × (length ys ≡ length xs)
      × Filled value other (n + 1) ys

  pub collect : ((j : ℕ) (xs : List X) → j < n →
      walk a me lines (at j xs) ≡ at (j + 1) (slice_set xs (j - 1) (value j))) →
      ((j : ℕ) (xs : List X) → j ≡ n → walk a me lines (at j xs) ≡ beyond (slice_set xs (j - 1) (value j))) →
      (j : ℕ) (xs : List X) → j ≡ 1 → 1 ≤ n → n ≤ length xs → Collected xs j
  collect next last j xs first some size =
      let h = fill a me lines n (λ (r : Unit {0}). at) (λ r. beyond) value other
      (λ r j xs pos lt long. (tt, next j xs lt)) (λ r j xs pos is long. (tt, last j xs is)) tt j xs first some size in
      (h.1, h.2, h.3, h.4)
