-- What every run of listing M keeps, for every number of processes and of words, however long it is. There is at
-- least one word: with none line 17 would have nothing to read.
use Rattle.std.specs.Prelude.{◌≡◌, ℕ, ◌+◌, ◌-◌, ◌*◌, ◌<◌, ◌≤◌, ◌⊎◌, true, List, Option, None}
use Rattle.snap_words.specs.Kind.{fits}
use Rattle.snap_words.specs.Shape.{Counts, IsShape}
use Rattle.snap_words.specs.declared.kind.KindTag.TheVariants.{Multi}
use Rattle.snap_semantics.specs.declared.process.Item.{Item}
use Rattle.snap_semantics.specs.State.{value_at, process_at}
use Rattle.snap_runs.specs.Run.{Run, IsValidRun, before}
use Rattle.snap_runs.specs.Scan.{PendingScan, double_collects}
use Rattle.snap_runs.specs.Update.{executes}
use Rattle.snap_runs.specs.Linearization.{IsLinearizable}
use Rattle.snap_runs.specs.Placement as placement
use Rattle.snap_runs.specs.Promises as promises
use Rattle.snap_runs.specs.Snapshot.{Bounds, IsSnapshotRun}
use Rattle.snap_runs.specs.WaitFree.{IsWaitFree}
use Rattle.snap_runs.specs.WriteStrong.{IsWriteStronglyLinearizable}
use Rattle.snap_runs.specs.Promises.{ObservedMove, CollectLines}
use Rattle.snap_runs_of_m.specs.ListingM.{listing_m, k, moved, j as counter}

abbrev pub counts : ℕ → ℕ → Counts
counts n w = record { n = n; w = w }

-- the run of M by n processes with w words over these items
abbrev pub run_of : ℕ → ℕ → List Item → Run
run_of n w items = record { source = listing_m; shape = counts n w; items = items }

-- No process ever traps.
abbrev pub NeverTraps : Type 0
NeverTraps = (n w : ℕ) (items : List Item) → 0 < w → promises.NeverTraps (run_of n w items)

-- The values change at line 57 alone.
abbrev pub ChangesOnlyAt57 : Type 0
ChangesOnlyAt57 = (n w : ℕ) (items : List Item) → 0 < w → promises.ChangesOnlyAt 57 (run_of n w items)

-- Line 57 is executed in an update, after its call, and writes its value at its word.
abbrev pub WritesItsUpdate : Type 0
WritesItsUpdate = (n w : ℕ) (items : List Item) → 0 < w → promises.WritesItsUpdate 57 (run_of n w items)

-- An update executes line 57 at most once, and exactly once if it is done.
abbrev pub WritesOnce : Type 0
WritesOnce = (n w : ℕ) (items : List Item) → 0 < w → promises.WritesOnce 57 (run_of n w items)

-- Every finished scan has a point, called or embedded in an update.
abbrev pub HavePoints : Type 0
HavePoints = (n w : ℕ) (items : List Item) → 0 < w → promises.HavePoints (run_of n w items)

-- Every scan has at most 2 n + 1 double collects.
abbrev pub FewCollects : Type 0
FewCollects = (n w : ℕ) (items : List Item) → 0 < w → promises.CollectsAtMost (2 * n + 1) (run_of n w items)

-- Every scan takes at most 14 n n + 16 n w + 19 n + 8 w + 10 steps.
abbrev pub FewSteps : Type 0
FewSteps = (n w : ℕ) (items : List Item) → 0 < w →
    promises.StepsAtMost (14 * (n * n) + 16 * (n * w) + 19 * n + 8 * w + 10) (run_of n w items)

-- Every scan has at most 2 n - 1 double collects.
abbrev pub SharpCollects : Type 0
SharpCollects = (n w : ℕ) (items : List Item) → 0 < w → promises.CollectsAtMost (2 * n - 1) (run_of n w items)

-- A step of process j that process i can see: j writes a word, or answers the handshake in the bit that i reads.
abbrev pub IsVisibleStep : Run → ℕ → ℕ → ℕ → Type 0
IsVisibleStep r i j t =
    (executes r j 57 t ≡ true)
    ⊎ ((executes r j 52 t ≡ true) × (value_at counter (process_at (before r t) j).locals.scalars 0 ≡ i))

-- Between items c and t process j makes such a step, and process i has at most one double collect from there to item t.
pub record RecentVisibleStep (r : Run) (i j c t : ℕ) : Type 0 where
  pub item : ℕ
  pub after_start : c < item
  pub before_move : item < t
  pub event : IsVisibleStep r i j item
  pub recent : double_collects r i item t ≤ 1

-- Where a scan sees a move at line 31, the process has made such a step since the scan's start, and at most one double
-- collect of the scan has ended since: the one that failed.
abbrev pub MovesAreVisibleSteps : Type 0
MovesAreVisibleSteps = (n w : ℕ) (items : List Item) → 0 < w → IsValidRun (run_of n w items) →
    (i j : ℕ) (link : Option ℕ) (c t : ℕ) → PendingScan (run_of n w items) i link c t → c < t →
    ObservedMove (run_of n w items) 31 moved i j t → RecentVisibleStep (run_of n w items) i j c t

-- line 17 reads word k into a, and line 19 into b; line 30 looks for marks, and goes to line 34 where there are none
abbrev pub double_collect : CollectLines
double_collect = record { first = 17; second = 19; scalar = k; test = 30; passed = 34 }

-- A test that passes is clean: no word is written between its two reads.
abbrev pub PassedTestsAreClean : Type 0
PassedTestsAreClean =
    (n w : ℕ) (items : List Item) → 0 < w → promises.PassedTestsAreClean double_collect 57 (run_of n w items)

-- Every run is linearizable: its operations are as if each took place at one moment between its call and its end.
abbrev pub Linearizable : Type 0
Linearizable = (n w : ℕ) (items : List Item) → 0 < w → IsLinearizable (run_of n w items)

-- Each operation has its place: an update an item at which its process executes line 57.
abbrev pub OperationsHavePlaces : Type 0
OperationsHavePlaces = (n w : ℕ) (items : List Item) → 0 < w → placement.OperationsHavePlaces 57 (run_of n w items)

-- As a run goes on, the updates that its linearization lists keep their order, and more come behind them.
abbrev pub WriteStronglyLinearizable : Type 0
WriteStronglyLinearizable = (n w : ℕ) → 0 < w → IsWriteStronglyLinearizable listing_m (counts n w) None

-- Every call is over after so many turns of its process, whatever the others do: a scan after the steps above, and an
-- update after 14 n n + 16 n w + 22 n + 8 w + 16.
abbrev pub WaitFree : Type 0
WaitFree = (n w : ℕ) (items : List Item) → 0 < w →
    IsWaitFree (14 * (n * n) + 16 * (n * w) + 19 * n + 8 * w + 10)
    (14 * (n * n) + 16 * (n * w) + 22 * n + 8 * w + 16) (run_of n w items)

-- A scan that returns at line 37 has the view of an embedded scan of another process, all within it.
abbrev pub BorrowedViewsAreLent : Type 0
BorrowedViewsAreLent = (n w : ℕ) (items : List Item) → 0 < w → promises.BorrowedViewsAreLent 37 (run_of n w items)

-- the line at which an update writes, and the bounds of scans
abbrev pub bounds : Counts → Bounds
bounds s = record {
  writes = 57;
  collects = 2 * s.n + 1;
  sharp = 2 * s.n - 1;
  steps = 14 * (s.n * s.n) + 16 * (s.n * s.w) + 19 * s.n + 8 * s.w + 10;
}

-- Every run of M, of whatever shape fits, is a run of a snapshot.
abbrev pub RunsAreSnapshots : Type 0
RunsAreSnapshots = (s : Counts) (items : List Item) → IsShape s.n s.w → fits Multi s ≡ true →
    IsSnapshotRun (bounds s) (record { source = listing_m; shape = s; items = items })
