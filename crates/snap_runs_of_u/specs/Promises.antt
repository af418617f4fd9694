-- What every run of listing U keeps, for every number of processes, as long as its sequence numbers suffice.
use Rattle.std.specs.Prelude.{◌≡◌, ℕ, ◌+◌, ◌*◌, ◌^◌, ◌<◌, List, Some, length, true}
use Rattle.snap_words.specs.Kind.{fits}
use Rattle.snap_words.specs.Shape.{Counts, IsShape}
use Rattle.snap_words.specs.declared.kind.KindTag.TheVariants.{Seq}
use Rattle.snap_semantics.specs.declared.process.Item.{Item}
use Rattle.snap_runs.specs.Run.{Run}
use Rattle.snap_runs.specs.Linearization.{IsLinearizable}
use Rattle.snap_runs.specs.Placement as placement
use Rattle.snap_runs.specs.Promises as promises
use Rattle.snap_runs.specs.Snapshot.{Bounds, IsSnapshotRun}
use Rattle.snap_runs.specs.WaitFree.{IsWaitFree}
use Rattle.snap_runs.specs.WriteStrong.{IsWriteStronglyLinearizable}
use Rattle.snap_runs.specs.Promises.{CollectLines}
use Rattle.snap_runs_of_u.specs.ListingU.{listing_u, j, moved}

-- a word for each of n processes
abbrev pub square : ℕ → Counts
square n = record { n = n; w = n }

-- the run of U by n processes over these items
abbrev pub run_of : ℕ → List Item → Run
run_of n items = record { source = listing_u; shape = square n; items = items }

-- Sequence numbers have 64 bits, and count the writes of a word: there are enough of them where there are fewer items.
abbrev pub SequenceNumbersSuffice : List Item → Type 0
SequenceNumbersSuffice items = length items < 2 ^ 64

-- No process ever traps.
abbrev pub NeverTraps : Type 0
NeverTraps = (n : ℕ) (items : List Item) → SequenceNumbersSuffice items → promises.NeverTraps (run_of n items)

-- The values change at line 32 alone.
abbrev pub ChangesOnlyAt32 : Type 0
ChangesOnlyAt32 =
    (n : ℕ) (items : List Item) → SequenceNumbersSuffice items → promises.ChangesOnlyAt 32 (run_of n items)

-- Line 32 is executed in an update, after its call, and writes its value.
abbrev pub WritesItsUpdate : Type 0
WritesItsUpdate =
    (n : ℕ) (items : List Item) → SequenceNumbersSuffice items → promises.WritesItsUpdate 32 (run_of n items)

-- An update executes line 32 at most once, and exactly once if it is done.
abbrev pub WritesOnce : Type 0
WritesOnce = (n : ℕ) (items : List Item) → SequenceNumbersSuffice items → promises.WritesOnce 32 (run_of n items)

-- Every finished scan has a point, called or embedded in an update.
abbrev pub HavePoints : Type 0
HavePoints = (n : ℕ) (items : List Item) → SequenceNumbersSuffice items → promises.HavePoints (run_of n items)

-- Every scan has at most n + 1 double collects.
abbrev pub FewCollects : Type 0
FewCollects =
    (n : ℕ) (items : List Item) → SequenceNumbersSuffice items → promises.CollectsAtMost (n + 1) (run_of n items)

-- Every scan takes at most 4 n n + 8 n + 7 steps.
abbrev pub FewSteps : Type 0
FewSteps =
    (n : ℕ) (items : List Item) → SequenceNumbersSuffice items →
    promises.StepsAtMost (4 * (n * n) + 8 * n + 7) (run_of n items)

-- A move that a scan sees at line 17 is a write since the scan's start, and at most one double collect of the scan
-- has ended since: the one that failed.
abbrev pub MovesAreWrites : Type 0
MovesAreWrites =
    (n : ℕ) (items : List Item) → SequenceNumbersSuffice items → promises.MovesAreWrites 17 moved 32 (run_of n items)

-- The sharp bound: no process sees itself move, so that every scan has at most n double collects.
abbrev pub SharpCollects : Type 0
SharpCollects = (n : ℕ) (items : List Item) → SequenceNumbersSuffice items → promises.CollectsAtMost n (run_of n items)

-- A scan that returns at line 24 has the view of an embedded scan of another process, all within it.
abbrev pub BorrowedViewsAreLent : Type 0
BorrowedViewsAreLent =
    (n : ℕ) (items : List Item) → SequenceNumbersSuffice items → promises.BorrowedViewsAreLent 24 (run_of n items)

-- A scan shows the value of its process's last update.
abbrev pub OwnUpdatesAreSeen : Type 0
OwnUpdatesAreSeen =
    (n : ℕ) (items : List Item) → SequenceNumbersSuffice items → promises.OwnUpdatesAreSeen (run_of n items)

-- line 12 reads word j into a, and line 14 into b; line 16 compares them, and goes to line 21 where they agree
abbrev pub double_collect : CollectLines
double_collect = record { first = 12; second = 14; scalar = j; test = 16; passed = 21 }

-- A test that passes is clean: no word is written between its two reads.
abbrev pub PassedTestsAreClean : Type 0
PassedTestsAreClean =
    (n : ℕ) (items : List Item) → SequenceNumbersSuffice items →
    promises.PassedTestsAreClean double_collect 32 (run_of n items)

-- Every run is linearizable: its operations are as if each took place at one moment between its call and its end.
abbrev pub Linearizable : Type 0
Linearizable = (n : ℕ) (items : List Item) → SequenceNumbersSuffice items → IsLinearizable (run_of n items)

-- Each operation has its place: an update an item at which its process executes line 32.
abbrev pub OperationsHavePlaces : Type 0
OperationsHavePlaces =
    (n : ℕ) (items : List Item) → SequenceNumbersSuffice items → placement.OperationsHavePlaces 32 (run_of n items)

-- As a run goes on, the updates that its linearization lists keep their order, and more come behind them.
abbrev pub WriteStronglyLinearizable : Type 0
WriteStronglyLinearizable = (n : ℕ) → IsWriteStronglyLinearizable listing_u (square n) (Some (2 ^ 64))

-- Every call is over after so many turns of its process, whatever the others do: a scan after the steps above, and an
-- update after 4 n n + 8 n + 11.
abbrev pub WaitFree : Type 0
WaitFree =
    (n : ℕ) (items : List Item) → SequenceNumbersSuffice items →
    IsWaitFree (4 * (n * n) + 8 * n + 7) (4 * (n * n) + 8 * n + 11) (run_of n items)

-- the line at which an update writes, and the bounds of scans
abbrev pub bounds : Counts → Bounds
bounds s = record { writes = 32; collects = s.n + 1; sharp = s.n; steps = 4 * (s.n * s.n) + 8 * s.n + 7 }

-- Every run of U, of whatever shape fits, is a run of a snapshot.
abbrev pub RunsAreSnapshots : Type 0
RunsAreSnapshots =
    (s : Counts) (items : List Item) → IsShape s.n s.w → fits Seq s ≡ true → SequenceNumbersSuffice items →
    IsSnapshotRun (bounds s) (record { source = listing_u; shape = s; items = items })
