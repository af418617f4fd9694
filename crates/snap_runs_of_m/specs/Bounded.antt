-- How large the numbers of listing M get, for every number of processes and of words.
use Rattle.std.specs.Prelude.{ℕ, ◌<◌, List, [], ◌∷◌}
use Rattle.snap_semantics.specs.declared.process.Item.{Item}
use Rattle.snap_runs.specs.Bounded.{Limits, StaysWithin}
use Rattle.snap_runs_of_m.specs.ListingM.{j, k, x, moved, g, h, d, tog}
use Rattle.snap_runs_of_m.specs.Promises.{run_of}

-- M has no sequence numbers, and a word has the number of its writer. Local j is a process, k a word, and x a bit or a
-- process; a scan borrows the view of a process that it has seen move three times, and so sees no fourth move; the
-- other rows are bits.
abbrev pub limits : ℕ → ℕ → Limits
limits n w = record {
  seq = 0;
  id = n;
  scalars = (j, n) ∷ (k, w) ∷ (x, n) ∷ [];
  rows = (moved, 3) ∷ (g, 1) ∷ (h, 1) ∷ (d, 1) ∷ (tog, 1) ∷ [];
}

-- Every run of M is bounded, however long it is.
abbrev pub StaysBounded : Type 0
StaysBounded = (n w : ℕ) (items : List Item) → 0 < w → StaysWithin (λ at. limits n w) (run_of n w items)
