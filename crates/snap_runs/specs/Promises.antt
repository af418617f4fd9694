-- The promises of a snapshot for one run of any listing, each on its own: no traps, one write for
-- each update, points of scans, clean tests, borrowed views, limits on double collects and steps.
use Rattle.std.specs.Prelude.{◌≡◌, ◌≢◌, ℕ, suc, ◌-◌, ◌<◌, ◌≤◌, ◌⊎◌, true, List, [], length}
use Rattle.std.specs.Prelude.{Option, Some, None, slice_index, slice_set}
use Rattle.snap_words.specs.Shape.{IsOneOf}
use Rattle.snap_semantics.specs.declared.process.Op.TheVariants.{Update}
use Rattle.snap_semantics.specs.declared.process.Status.{Status}
use Rattle.snap_semantics.specs.declared.process.Status.TheVariants.{Busy, Trapped}
use Rattle.snap_semantics.specs.Source.{Name}
use Rattle.snap_semantics.specs.State.{Locals, value_at, process_at, values}
use Rattle.snap_semantics.specs.Table.{who}
use Rattle.snap_runs.specs.Run.{Run, IsValidRun, state, before, item}
use Rattle.snap_runs.specs.Scan.{PendingScan, FinishedScan, HasPoint, count, double_collects, own_steps}
use Rattle.snap_runs.specs.Update.{is_at, executes, IsDone, PendingUpdate}

-- a process that has trapped
abbrev pub HasTrapped : Status → Type 0
HasTrapped (Trapped cause a) = Unit {0}
HasTrapped _ = ⊥

-- No process ever traps.
abbrev pub NeverTraps : Run → Type 0
NeverTraps r =
    IsValidRun r → (i t : ℕ) → IsOneOf r.shape.n i → t ≤ length r.items →
    HasTrapped (process_at (state r t) i).status → ⊥

-- An item changes the values only where it executes this line.
abbrev pub ChangesOnlyAt : ℕ → Run → Type 0
ChangesOnlyAt line r = IsValidRun r → (t : ℕ) → t < length r.items →
    (values (state r (suc t)) ≡ values (state r t)) ⊎ (executes r (who (item r (suc t))) line (suc t) ≡ true)

-- An item that executes this line lies in an update of its process, after its call and not after its end; it writes
-- that update's value at that update's word, and the other places stay.
abbrev pub WritesItsUpdate : ℕ → Run → Type 0
WritesItsUpdate line r =
    IsValidRun r → (i t : ℕ) → IsOneOf r.shape.n i → t < length r.items → executes r i line (suc t) ≡ true →
    (word : ℕ) × (value : ℕ) × (c : ℕ) × PendingUpdate r i word value c (suc t) × (c < suc t) × IsOneOf r.shape.w word
    × (values (state r (suc t)) ≡ slice_set (values (state r t)) (word - 1) value)

-- An update executes this line at most once, and exactly once if it is done.
abbrev pub WritesOnce : ℕ → Run → Type 0
WritesOnce line r = IsValidRun r → (i word value c e : ℕ) → PendingUpdate r i word value c e →
    (count (executes r i line) c e ≤ 1) × (c < e → IsDone r i e → count (executes r i line) c e ≡ 1)

-- Every finished scan has a point, called or embedded in an update.
abbrev pub HavePoints : Run → Type 0
HavePoints r =
    IsValidRun r → (i : ℕ) (link : Option ℕ) (c e : ℕ) (view : List ℕ) →
    FinishedScan r i link c e view → HasPoint r c e view

-- Every scan, finished or not, has at most so many double collects.
abbrev pub CollectsAtMost : ℕ → Run → Type 0
CollectsAtMost most r =
    IsValidRun r → (i : ℕ) (link : Option ℕ) (c e : ℕ) → PendingScan r i link c e → double_collects r i c e ≤ most

-- Every scan, finished or not, takes at most so many steps of its process.
abbrev pub StepsAtMost : ℕ → Run → Type 0
StepsAtMost most r =
    IsValidRun r → (i : ℕ) (link : Option ℕ) (c e : ℕ) → PendingScan r i link c e → own_steps r i c e ≤ most

-- place j of a row
abbrev pub row_place : Locals → Name → ℕ → ℕ
row_place l row j = slice_index (value_at row l.rows []) (j - 1)

-- At item t process i sees process j move: it executes this line, by which place j of this row of its locals grows.
pub record ObservedMove (r : Run) (line : ℕ) (row : Name) (i j t : ℕ) : Type 0 where
  pub process : IsOneOf r.shape.n j
  pub executed : executes r i line t ≡ true
  pub grows : row_place (process_at (before r t) i).locals row j < row_place (process_at (state r t) i).locals row j

-- Between items c and t process j executes this line, and process i has at most one
-- double collect from there to item t.
pub record RecentWrite (r : Run) (line : ℕ) (i j c t : ℕ) : Type 0 where
  pub item : ℕ
  pub after_start : c < item
  pub before_move : item < t
  pub executed : executes r j line item ≡ true
  pub recent : double_collects r i item t ≤ 1

-- A move that a scan sees is a write since the scan's start, and at most one double collect of the scan has ended
-- since: the one that failed.
abbrev pub MovesAreWrites : ℕ → Name → ℕ → Run → Type 0
MovesAreWrites raises row writes r =
    IsValidRun r → (i j : ℕ) (link : Option ℕ) (c t : ℕ) → PendingScan r i link c t → c < t →
    ObservedMove r raises row i j t → RecentWrite r writes i j c t

-- The lines of a listing's double collect: line `first` reads word k into the first copies and line `second` reads it
-- into the second ones, where k is this scalar; line `test` leads to line `passed` where the copies agree.
pub record CollectLines : Type 0 where
  pub first : ℕ
  pub second : ℕ
  pub scalar : Name
  pub test : ℕ
  pub passed : ℕ

-- At item t process i executes this line with k in this scalar.
abbrev pub ExecutesFor : Run → ℕ → ℕ → Name → ℕ → ℕ → Type 0
ExecutesFor r i line scalar k t =
    (executes r i line t ≡ true) × (value_at scalar (process_at (before r t) i).locals.scalars 0 ≡ k)

-- in an update of this word
abbrev pub IsUpdating : ℕ → Status → Type 0
IsUpdating word (Busy a) = (value : ℕ) × (a.op ≡ Update word value)
IsUpdating word _ = ⊥

-- At item t some process executes this line in an update of word k.
abbrev pub WritesWord : Run → ℕ → ℕ → ℕ → Type 0
WritesWord r line k t =
    (i : ℕ) × IsOneOf r.shape.n i × (executes r i line t ≡ true) × IsUpdating k (process_at (before r t) i).status

-- Process i reads word k twice in the double collect that ends at item t, before and after state `middle`, and in
-- between nobody writes that word.
pub record CleanReads (r : Run) (lines : CollectLines) (writes i c t middle k : ℕ) : Type 0 where
  pub first : ℕ
  pub second : ℕ
  pub reads_first : ExecutesFor r i lines.first lines.scalar k first
  pub reads_second : ExecutesFor r i lines.second lines.scalar k second
  -- from the scan's start on, with at most one double collect of the scan ended since: the one that ends at item t
  pub after_start : c < first
  pub recent : double_collects r i first t ≤ 1
  pub before_middle : first ≤ middle
  pub after_middle : middle < second
  pub before_test : second < t
  pub unwritten : (u : ℕ) → first < u → u < second → WritesWord r writes k u → ⊥

-- A passed test of a scan is clean: there is a state between its collects, and no word is written between the scan's
-- two reads of it.
abbrev pub PassedTestsAreClean : CollectLines → ℕ → Run → Type 0
PassedTestsAreClean lines writes r =
    IsValidRun r → (i : ℕ) (link : Option ℕ) (c t : ℕ) → PendingScan r i link c t → c < t →
    executes r i lines.test t ≡ true → is_at lines.passed (process_at (state r t) i).status ≡ true →
    (middle : ℕ) × ((k : ℕ) → IsOneOf r.shape.w k → CleanReads r lines writes i c t middle k)

-- The view is that of an embedded scan of another process which lies within items c to e.
pub record LentView (r : Run) (i c e : ℕ) (view : List ℕ) : Type 0 where
  pub lender : ℕ
  pub other : lender ≢ i
  pub link : ℕ
  pub from : ℕ
  pub to : ℕ
  pub after_start : c < from
  pub before_end : to < e
  pub scan : FinishedScan r lender (Some link) from to view

-- A scan that ends at this line has the view of a whole embedded scan of another process within it.
abbrev pub BorrowedViewsAreLent : ℕ → Run → Type 0
BorrowedViewsAreLent line r =
    IsValidRun r → (i : ℕ) (link : Option ℕ) (c e : ℕ) (view : List ℕ) → FinishedScan r i link c e view →
    executes r i line e ≡ true → LentView r i c e view

-- A scan that a process calls after an update of its own shows that update's value, where no other one of its updates
-- is done between.
abbrev pub OwnUpdatesAreSeen : Run → Type 0
OwnUpdatesAreSeen r = IsValidRun r → (i word value called done c e : ℕ) (view : List ℕ) →
    PendingUpdate r i word value called done → called < done → IsDone r i done →
    done < c → ((t : ℕ) → done < t → t < c → IsDone r i t → ⊥) →
    FinishedScan r i None c e view → slice_index view (word - 1) ≡ value
