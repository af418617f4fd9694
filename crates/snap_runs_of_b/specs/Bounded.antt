-- How large the numbers of listing B get, for every number of processes.
use Rattle.std.specs.Prelude.{ℕ, List, [], ◌∷◌}
use Rattle.snap_semantics.specs.declared.process.Item.{Item}
use Rattle.snap_runs.specs.Bounded.{Limits, StaysWithin}
use Rattle.snap_runs_of_b.specs.ListingB.{j, x, t, moved, g, f}
use Rattle.snap_runs_of_b.specs.Promises.{run_of}

-- B has no sequence numbers. Local j is a process, x and t are bits; a scan borrows the view of a process that it has
-- seen move twice, and so sees no third move; the bits that it draws, and those that its word is to say, are bits.
abbrev pub limits : ℕ → Limits
limits n = record {
  seq = 0;
  id = 0;
  scalars = (j, n) ∷ (x, 1) ∷ (t, 1) ∷ [];
  rows = (moved, 2) ∷ (g, 1) ∷ (f, 1) ∷ [];
}

-- Every run of B is bounded, however long it is.
abbrev pub StaysBounded : Type 0
StaysBounded = (n : ℕ) (items : List Item) → StaysWithin (λ at. limits n) (run_of n items)
