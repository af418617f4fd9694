-- All that is promised of the runs of the listings that come with the program, in one place.
use Rattle.std.specs.Prelude.{◌≡◌, ℕ, ◌+◌, ◌*◌, ◌^◌, ◌<◌, List, length, true, Option, ⊤}
use Rattle.snap_words.specs.Kind.{fits}
use Rattle.snap_words.specs.Shape.{Counts, IsShape}
use Rattle.snap_words.specs.declared.kind.KindTag.{KindTag}
use Rattle.snap_words.specs.declared.kind.KindTag.TheVariants as kind
use Rattle.snap_semantics.specs.declared.process.Item.{Item}
use Rattle.snap_runs.specs.Placement.{OperationsHavePlaces}
use Rattle.snap_runs.specs.Promises.{BorrowedViewsAreLent, CollectLines, MovesAreWrites, ObservedMove}
use Rattle.snap_runs.specs.Promises.{OwnUpdatesAreSeen, PassedTestsAreClean}
use Rattle.snap_runs.specs.Run.{IsValidRun, Run}
use Rattle.snap_runs.specs.Scan.{PendingScan}
use Rattle.snap_runs.specs.Snapshot.{IsSnapshotRun}
use Rattle.snap_runs.specs.WaitFree.{IsWaitFree}
use Rattle.snap_runs_of_u.specs.ListingU as listing_u
use Rattle.snap_runs_of_b.specs.ListingB as listing_b
use Rattle.snap_runs_of_m.specs.ListingM as listing_m
use Rattle.snap_runs_of_u.specs.Promises as u
use Rattle.snap_runs_of_b.specs.Promises as b
use Rattle.snap_runs_of_m.specs.Promises as m
use Rattle.snap_shipped.specs.Shipped.{shipped, shipped_bounds}

-- the lines of a double collect
abbrev pub collect_lines : KindTag → CollectLines
collect_lines kind.Seq = u.double_collect
collect_lines kind.Bits = b.double_collect
collect_lines kind.Multi = m.double_collect

-- the line at which a scan ends that borrows its view
abbrev pub borrowing_line : KindTag → ℕ
borrowing_line kind.Seq = 24
borrowing_line kind.Bits = 28
borrowing_line kind.Multi = 37

-- the most turns of its process within which an update is over
abbrev pub update_turns : KindTag → Counts → ℕ
update_turns kind.Seq s = 4 * (s.n * s.n) + 8 * s.n + 11
update_turns kind.Bits s = 8 * (s.n * s.n) + 15 * s.n + 12
update_turns kind.Multi s = 14 * (s.n * s.n) + 16 * (s.n * s.w) + 22 * s.n + 8 * s.w + 16

-- Where a scan sees a process move, that process has done something since the scan's start, and at most one double
-- collect of the scan has ended since: in U and B a write of its word; in M a write, or an answer to the handshake in
-- the bit that the scanner reads.
abbrev pub MovesAreReal : KindTag → Run → Type 0
MovesAreReal kind.Seq r = MovesAreWrites 17 listing_u.moved 32 r
MovesAreReal kind.Bits r = MovesAreWrites 21 listing_b.moved 46 r
MovesAreReal kind.Multi r = IsValidRun r → (i j : ℕ) (link : Option ℕ) (c t : ℕ) → PendingScan r i link c t → c < t →
    ObservedMove r 31 listing_m.moved i j t → m.RecentVisibleStep r i j c t

-- A scan shows the value of its process's last update. Nothing is said of M, where other
-- processes write to the same word.
abbrev pub OwnUpdatesShow : KindTag → Run → Type 0
OwnUpdatesShow kind.Multi r = ⊤
OwnUpdatesShow _ r = OwnUpdatesAreSeen r

-- A run with everything that is promised of the listing that is shipped for a kind.
pub record KeepsPromises (g : KindTag) (r : Run) : Type 0 where
  -- no traps, points of all scans, few double collects and steps, and linearizable
  pub snapshot : IsSnapshotRun (shipped_bounds g r.shape) r
  -- each operation has its place, and in the order of places they are a linearization
  pub has_places : OperationsHavePlaces (shipped_bounds g r.shape).writes r
  -- each call is over after so many turns of its process
  pub wait_free : IsWaitFree (shipped_bounds g r.shape).steps (update_turns g r.shape) r
  -- no word is written between the two reads of a test that passes
  pub clean_tests : PassedTestsAreClean (collect_lines g) (shipped_bounds g r.shape).writes r
  pub real_moves : MovesAreReal g r
  -- a borrowed view is that of an embedded scan of another process, all within the scan
  pub lent_views : BorrowedViewsAreLent (borrowing_line g) r
  pub own_updates : OwnUpdatesShow g r

-- U's sequence numbers have 64 bits; B and M need no limit.
abbrev pub NumbersSuffice : KindTag → List Item → Type 0
NumbersSuffice kind.Seq items = length items < 2 ^ 64
NumbersSuffice _ items = ⊤

-- Every run of the listing that is shipped for this kind keeps its promises.
abbrev pub RunsKeepPromises : KindTag → Type 0
RunsKeepPromises g =
    (s : Counts) (items : List Item) → IsShape s.n s.w → fits (shipped g).kind s ≡ true → NumbersSuffice g items →
    KeepsPromises g (record { source = shipped g; shape = s; items = items })
