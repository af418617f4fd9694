-- `last_process_is_one`: the process of the last item before a position (`last_of`) is one of the run's, and the
-- position is not 0.
use Rattle.std.proofs.Common.{◌≡◌, ◌<◌, ◌≤◌, ℕ, zero, suc, List, [], ◌∷◌, length, Option, Some, None, ap, arith, subst}
use Rattle.std.specs.List.{AllByRecursion}
use Rattle.std.specs.Prelude.{slice_index_or}
use Rattle.snap_words.specs.Shape.{IsOneOf}
use Rattle.snap_semantics.specs.declared.process.Item.{Item}
use Rattle.snap_semantics.specs.declared.process.Item.TheVariants.{Step}
use Rattle.snap_semantics.specs.declared.process.Outcome.{Outcome}
use Rattle.snap_semantics.specs.Table.{who}
use Rattle.snap_runs.specs.Run.{Run, item}
use Rattle.snap_debug.specs.Replies.{last_of}

-- what holds of the process of every item holds of the process of item t + 1
each : (P : ℕ → Type 0) (xs : List Item) (t : ℕ) → AllByRecursion (λ (x : Item). P (who x)) xs → t < length xs →
    P (who (slice_index_or xs t (Step 0)))
each P [] t all within = absurd (omega (arith, within))
each P (x ∷ xs) zero all within = all.0
each P (x ∷ xs) (suc t) all within = let less : t < length xs = omega (arith, within) in each P xs t all.1 less

abbrev process_of_last : Option (ℕ × Outcome) → ℕ
process_of_last None = 0
process_of_last (Some o) = o.0

-- the process of the last item is one of the run's
pub last_process_is_one : (r : Run) (t i : ℕ) (o : Outcome) →
    AllByRecursion (λ (x : Item). IsOneOf r.shape.n (who x)) r.items →
    t ≤ length r.items → last_of r t ≡ Some (i, o) → (0 < t) × IsOneOf r.shape.n i
last_process_is_one r zero i o all within e = absurd cc
last_process_is_one r (suc t) i o all within e =
    let less : t < length r.items = omega (arith, within) in
    let there : IsOneOf r.shape.n (who (item r (suc t))) = each (λ (k : ℕ). IsOneOf r.shape.n k) r.items t all less in
    let same : who (item r (suc t)) ≡ i = ap process_of_last e in
    (omega arith, subst (λ (k : ℕ). IsOneOf r.shape.n k) same there)
