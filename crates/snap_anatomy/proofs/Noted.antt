-- The trace of a run has a step for each item.
use Rattle.std.proofs.Common.{◌≡◌, ℕ, suc, ◌+◌, List, [], ◌∷◌, length, refl, ap}
use Rattle.snap_words.specs.Shape.{Counts}
use Rattle.snap_semantics.specs.declared.process.Item.{Item}
use Rattle.snap_semantics.specs.Source.{Source}
use Rattle.snap_semantics.specs.State.{State, initial}
use Rattle.snap_semantics.specs.Table.{done}
use Rattle.snap_runs.specs.Run.{Run}
use Rattle.snap_acts.specs.Trace.{steps_of, trace_of}

many : (s : Source) (n : Counts) (S : State) (t : ℕ) (xs : List Item) → length (steps_of s n S t xs) ≡ length xs
many s n S t [] = refl
many s n S t (x ∷ xs) = ap suc (many s n (done s n S x).0 (t + 1) xs)

pub as_many : (r : Run) → length (trace_of r) ≡ length r.items
as_many r = many r.source r.shape (initial r.source r.shape) 1 r.items
