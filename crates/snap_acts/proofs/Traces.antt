-- What the items of a run did (`steps_of`), item by item.
use Rattle.std.proofs.Common.{◌≡◌, ℕ, suc, ◌+◌, ◌<◌, List, [], ◌∷◌, ◌++◌, length, take, ap, ◌∙◌, arith}
use Rattle.std.proofs.Common.{length-take}
use Rattle.snap_words.specs.Shape.{Counts}
use Rattle.snap_semantics.specs.declared.process.Item.{Item}
use Rattle.snap_semantics.specs.Run.{after}
use Rattle.snap_semantics.specs.Source.{Source}
use Rattle.snap_semantics.specs.State.{State, initial}
use Rattle.snap_semantics.specs.Table.{done}
use Rattle.snap_runs.specs.Run.{Run, item, state}
use Rattle.snap_walk.proofs.Ways.{items_more}
use Rattle.snap_acts.specs.Trace.{step_of, steps_of}
use Rattle.snap_acts.specs.declared.act.TraceStep.{TraceStep}

-- what the first t items did
abbrev pub steps_to : Run → ℕ → List TraceStep
steps_to r t = steps_of r.source r.shape (initial r.source r.shape) 1 (take t r.items)

-- what items did, and what one behind them did
steps_last : (s : Source) (n : Counts) (S : State) (t : ℕ) (xs : List Item) (x : Item) →
    steps_of s n S t (xs ++ x ∷ []) ≡ steps_of s n S t xs ++ step_of s n (after s n S xs) (t + length xs) x ∷ []
steps_last s n S t [] x = let place : t ≡ t + 0 = omega arith in cc
steps_last s n S t (y ∷ xs) x =
    let place : t + 1 + length xs ≡ t + suc (length xs) = omega arith in
    cc (steps_last s n (done s n S y).0 (t + 1) xs x)

-- what they did with one item more
pub steps_more : (r : Run) (t : ℕ) → t < length r.items →
    steps_to r (suc t) ≡ steps_to r t ++ step_of r.source r.shape (state r t) (suc t) (item r (suc t)) ∷ []
steps_more r t below =
    let s = r.source in
    let n = r.shape in
    let number : 1 + length (take t r.items) ≡ suc t = omega (arith, length-take t r.items) in
    ap (steps_of s n (initial s n) 1) (items_more r t below)
    ∙ (rw number at (steps_last s n (initial s n) 1 (take t r.items) (item r (suc t))))
