-- What it means to shrink a schedule whose run fails: `Shrinks`, to one that is no larger and whose run fails;
-- `IsShrunk`, to one of which also no item can be left out.
use Rattle.std.specs.Prelude.{ℕ, ◌+◌, ◌<◌, ◌≤◌, Bool, true, false, List, ◌++◌, None, drop, length, take}
use Rattle.snap_words.specs.Shape.{Counts}
use Rattle.snap_semantics.specs.declared.process.Item.{Item}
use Rattle.snap_semantics.specs.Schedule.{Schedule}
use Rattle.snap_semantics.specs.ScheduleText.{IsSchedule}
use Rattle.snap_semantics.specs.Source.{Source}
use Rattle.snap_runs.specs.Run.{run_of_items}
use Rattle.snap_hunt.specs.Finding.{Finds, FindsSome}
use Rattle.snap_hunt.specs.declared.failures.Wanted.{Wanted}
use Rattle.snap_hunt.specs.declared.candidate.Candidate.{Candidate}

-- items without so many of them at a place, which counts from 0
abbrev pub without : (at count : ℕ) → List Item → List Item
without at count xs = take at xs ++ drop (at + count) xs

-- something is found in the run over these items
unfoldable pub FailsWith : Source → Wanted → Counts → List Item → Type 0
FailsWith l w shape xs = FindsSome w (run_of_items l shape xs)

-- nothing is found in it
unfoldable pub HoldsWith : Source → Wanted → Counts → List Item → Type 0
HoldsWith l w shape xs = Finds w (run_of_items l shape xs) None

-- whether anything is
abbrev pub TellsWhether : Source → Wanted → Counts → List Item → Bool → Type 0
TellsWhether l w shape xs true = FailsWith l w shape xs
TellsWhether l w shape xs false = HoldsWith l w shape xs

-- items of a schedule whose run fails
pub record Fails (l : Source) (w : Wanted) (shape : Counts) (xs : List Item) : Type 0 where
  pub schedule : IsSchedule (record { shape = shape; items = xs })
  pub fails : FailsWith l w shape xs

-- no more processes, words and items
pub record IsWithin (s t : Schedule) : Type 0 where
  pub processes : s.shape.n ≤ t.shape.n
  pub words : s.shape.w ≤ t.shape.w
  pub items : length s.items ≤ length t.items

-- from a schedule whose run fails to one that is no larger, whose run fails
pub record Shrinks (l : Source) (w : Wanted) (s t : Schedule) : Type 0 where
  pub still : Fails l w t.shape t.items
  pub within : IsWithin t s

-- no item can be left out
abbrev pub IsSmall : Source → Wanted → Counts → List Item → Type 0
IsSmall l w shape xs = (k : ℕ) → k < length xs → HoldsWith l w shape (without k 1 xs)

-- a schedule whose run fails, and a small one that is no larger
pub record IsShrunk (l : Source) (w : Wanted) (s t : Schedule) : Type 0 where
  pub shrinks : Shrinks l w s t
  pub small : IsSmall l w t.shape t.items

-- a candidate as a schedule
abbrev pub drawn : Candidate → Schedule
drawn d = record { shape = d.shape; items = d.items.items }

-- from a schedule to a candidate that is no larger, of fewer processes or words, whose run fails
pub record Narrows (l : Source) (w : Wanted) (s : Schedule) (d : Candidate) : Type 0 where
  pub shrinks : Shrinks l w s (drawn d)
  pub fewer : d.shape.n + d.shape.w < s.shape.n + s.shape.w
