-- How large the numbers of listing U get, for every number of processes: its sequence numbers grow, and nothing else.
use Rattle.std.specs.Prelude.{ℕ, List, [], ◌∷◌}
use Rattle.snap_semantics.specs.declared.process.Item.{Item}
use Rattle.snap_runs.specs.Bounded as bounded
use Rattle.snap_runs.specs.Bounded.{Limits, StaysWithin}
use Rattle.snap_runs_of_u.specs.ListingU.{j, c, moved}
use Rattle.snap_runs_of_u.specs.Promises.{run_of, SequenceNumbersSuffice}

-- After t items a sequence number, in a word, in a copy of one, or in local c, is at most t. Local j is a process; a
-- scan borrows the view of a process that it has seen move twice, and so sees no third move.
abbrev pub limits : ℕ → ℕ → Limits
limits n t = record {
  seq = t;
  id = 0;
  scalars = (j, n) ∷ (c, t) ∷ [];
  rows = (moved, 2) ∷ [];
}

-- In every run of U all but the sequence numbers is bounded, however long it is.
abbrev pub OnlySequenceNumbersGrow : Type 0
OnlySequenceNumbersGrow =
    (n : ℕ) (items : List Item) → SequenceNumbersSuffice items → StaysWithin (limits n) (run_of n items)

-- The sequence numbers grow at line 32 alone, each by one where its process writes.
abbrev pub CountsWrites : Type 0
CountsWrites = (n : ℕ) (items : List Item) → SequenceNumbersSuffice items → bounded.CountsWrites 32 (run_of n items)
