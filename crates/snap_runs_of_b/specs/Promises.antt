-- What every run of listing B keeps, for every number of processes, however long it is.
use Rattle.std.specs.Prelude.{◌≡◌, ℕ, ◌+◌, ◌*◌, List, None, true}
use Rattle.snap_words.specs.Kind.{fits}
use Rattle.snap_words.specs.Shape.{Counts, IsShape}
use Rattle.snap_words.specs.declared.kind.KindTag.TheVariants.{Bits}
use Rattle.snap_semantics.specs.declared.process.Item.{Item}
use Rattle.snap_runs.specs.Run.{Run}
use Rattle.snap_runs.specs.Linearization.{IsLinearizable}
use Rattle.snap_runs.specs.Placement as placement
use Rattle.snap_runs.specs.Promises as promises
use Rattle.snap_runs.specs.Snapshot.{Bounds, IsSnapshotRun}
use Rattle.snap_runs.specs.WaitFree.{IsWaitFree}
use Rattle.snap_runs.specs.WriteStrong.{IsWriteStronglyLinearizable}
use Rattle.snap_runs.specs.Promises.{CollectLines}
use Rattle.snap_runs_of_b.specs.ListingB.{listing_b, j, moved}

-- a word for each of n processes
abbrev pub square : ℕ → Counts
square n = record { n = n; w = n }

-- the run of B by n processes over these items
abbrev pub run_of : ℕ → List Item → Run
run_of n items = record { source = listing_b; shape = square n; items = items }

-- No process ever traps.
abbrev pub NeverTraps : Type 0
NeverTraps = (n : ℕ) (items : List Item) → promises.NeverTraps (run_of n items)

-- The values change at line 46 alone.
abbrev pub ChangesOnlyAt46 : Type 0
ChangesOnlyAt46 = (n : ℕ) (items : List Item) → promises.ChangesOnlyAt 46 (run_of n items)

-- Line 46 is executed in an update, after its call, and writes its value.
abbrev pub WritesItsUpdate : Type 0
WritesItsUpdate = (n : ℕ) (items : List Item) → promises.WritesItsUpdate 46 (run_of n items)

-- An update executes line 46 at most once, and exactly once if it is done.
abbrev pub WritesOnce : Type 0
WritesOnce = (n : ℕ) (items : List Item) → promises.WritesOnce 46 (run_of n items)

-- Every finished scan has a point, called or embedded in an update.
abbrev pub HavePoints : Type 0
HavePoints = (n : ℕ) (items : List Item) → promises.HavePoints (run_of n items)

-- Every scan has at most n + 1 double collects.
abbrev pub FewCollects : Type 0
FewCollects = (n : ℕ) (items : List Item) → promises.CollectsAtMost (n + 1) (run_of n items)

-- Every scan takes at most 8 n n + 12 n + 7 steps.
abbrev pub FewSteps : Type 0
FewSteps = (n : ℕ) (items : List Item) → promises.StepsAtMost (8 * (n * n) + 12 * n + 7) (run_of n items)

-- Every scan has at most n double collects.
abbrev pub SharpCollects : Type 0
SharpCollects = (n : ℕ) (items : List Item) → promises.CollectsAtMost n (run_of n items)

-- A move that a scan sees at line 21 is a write since the scan's start, and at most one double collect of the scan
-- has ended since: the one that failed.
abbrev pub MovesAreWrites : Type 0
MovesAreWrites = (n : ℕ) (items : List Item) → promises.MovesAreWrites 21 moved 46 (run_of n items)

-- A scan that returns at line 28 has the view of an embedded scan of another process, all within it.
abbrev pub BorrowedViewsAreLent : Type 0
BorrowedViewsAreLent = (n : ℕ) (items : List Item) → promises.BorrowedViewsAreLent 28 (run_of n items)

-- A scan shows the value of its process's last update.
abbrev pub OwnUpdatesAreSeen : Type 0
OwnUpdatesAreSeen = (n : ℕ) (items : List Item) → promises.OwnUpdatesAreSeen (run_of n items)

-- line 16 reads word j into a, and line 18 into b; line 20 compares them, and goes to line 25 where they agree
abbrev pub double_collect : CollectLines
double_collect = record { first = 16; second = 18; scalar = j; test = 20; passed = 25 }

-- A test that passes is clean: no word is written between its two reads.
abbrev pub PassedTestsAreClean : Type 0
PassedTestsAreClean = (n : ℕ) (items : List Item) → promises.PassedTestsAreClean double_collect 46 (run_of n items)

-- Every run is linearizable: its operations are as if each took place at one moment between its call and its end.
abbrev pub Linearizable : Type 0
Linearizable = (n : ℕ) (items : List Item) → IsLinearizable (run_of n items)

-- Each operation has its place: an update an item at which its process executes line 46.
abbrev pub OperationsHavePlaces : Type 0
OperationsHavePlaces = (n : ℕ) (items : List Item) → placement.OperationsHavePlaces 46 (run_of n items)

-- As a run goes on, the updates that its linearization lists keep their order, and more come behind them.
abbrev pub WriteStronglyLinearizable : Type 0
WriteStronglyLinearizable = (n : ℕ) → IsWriteStronglyLinearizable listing_b (square n) None

-- Every call is over after so many turns of its process, whatever the others do: a scan after the steps above, and an
-- update after 8 n n + 15 n + 12.
abbrev pub WaitFree : Type 0
WaitFree =
    (n : ℕ) (items : List Item) → IsWaitFree (8 * (n * n) + 12 * n + 7) (8 * (n * n) + 15 * n + 12) (run_of n items)

-- the line at which an update writes, and the bounds of scans
abbrev pub bounds : Counts → Bounds
bounds s = record { writes = 46; collects = s.n + 1; sharp = s.n; steps = 8 * (s.n * s.n) + 12 * s.n + 7 }

-- Every run of B, of whatever shape fits, is a run of a snapshot.
abbrev pub RunsAreSnapshots : Type 0
RunsAreSnapshots = (s : Counts) (items : List Item) → IsShape s.n s.w → fits Bits s ≡ true →
    IsSnapshotRun (bounds s) (record { source = listing_b; shape = s; items = items })
