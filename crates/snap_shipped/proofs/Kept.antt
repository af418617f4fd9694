-- All promises of the runs of U, B and M together: for each listing, `RunsKeepPromises` follows from its single laws.
use Rattle.std.proofs.Common.{◌≡◌, ◌<◌, ℕ, List, arith, subst, sym}
use Rattle.snap_runs.proofs.Common.{Item, Run}
use Rattle.snap_semantics.specs.Source.{Source}
use Rattle.snap_words.specs.declared.kind.KindTag.{KindTag}
use Rattle.snap_words.specs.declared.kind.KindTag.TheVariants as kind
use Rattle.std.proofs.lemmas.Bool.{eqb-true}
use Rattle.snap_runs.specs.Placement.{OperationsHavePlaces}
use Rattle.snap_runs.specs.Promises.{BorrowedViewsAreLent, PassedTestsAreClean}
use Rattle.snap_runs.specs.WaitFree.{IsWaitFree}
use Rattle.snap_runs_of_u.specs.ListingU.{listing_u}
use Rattle.snap_runs_of_b.specs.ListingB.{listing_b}
use Rattle.snap_runs_of_u.specs.Promises as u
use Rattle.snap_runs_of_b.specs.Promises as b
use Rattle.snap_runs_of_m.specs.Promises as m
use Rattle.snap_shipped.specs.Shipped.{shipped_bounds}
use Rattle.snap_shipped.specs.Kept.{MovesAreReal, OwnUpdatesShow, RunsKeepPromises}
use Rattle.snap_shipped.specs.Kept.{borrowing_line, collect_lines, update_turns}

-- what holds of as many words as processes holds of w words, where these are as many
of_square : (P : Run → Type 0) (l : Source) (n w : ℕ) (items : List Item) → w ≡ n →
    P (record { source = l; shape = record { n = n; w = n }; items = items }) →
    P (record { source = l; shape = record { n = n; w = w }; items = items })
of_square P l n w items e h =
    subst (λ (x : ℕ). P (record { source = l; shape = record { n = n; w = x }; items = items })) (sym e) h

-- the promises that speak of the shape
abbrev HasPlaces : KindTag → Run → Type 0
HasPlaces g r = OperationsHavePlaces (shipped_bounds g r.shape).writes r

abbrev HasTurns : KindTag → Run → Type 0
HasTurns g r = IsWaitFree (shipped_bounds g r.shape).steps (update_turns g r.shape) r

abbrev HasCleanTests : KindTag → Run → Type 0
HasCleanTests g r = PassedTestsAreClean (collect_lines g) (shipped_bounds g r.shape).writes r

pub of_u : u.RunsAreSnapshots → u.OperationsHavePlaces → u.WaitFree → u.PassedTestsAreClean → u.MovesAreWrites →
    u.BorrowedViewsAreLent → u.OwnUpdatesAreSeen → RunsKeepPromises kind.Seq
of_u snapshots places turns clean moves lent own s items shape fit suffice =
    let same = eqb-true s.w s.n fit in record {
      snapshot = snapshots s items shape fit suffice;
      has_places = of_square (HasPlaces kind.Seq) listing_u s.n s.w items same (places s.n items suffice);
      wait_free = of_square (HasTurns kind.Seq) listing_u s.n s.w items same (turns s.n items suffice);
      clean_tests = of_square (HasCleanTests kind.Seq) listing_u s.n s.w items same (clean s.n items suffice);
      real_moves = of_square (MovesAreReal kind.Seq) listing_u s.n s.w items same (moves s.n items suffice);
      lent_views =
          of_square (BorrowedViewsAreLent (borrowing_line kind.Seq)) listing_u s.n s.w items same
          (lent s.n items suffice);
      own_updates = of_square (OwnUpdatesShow kind.Seq) listing_u s.n s.w items same (own s.n items suffice);
    }

pub of_b : b.RunsAreSnapshots → b.OperationsHavePlaces → b.WaitFree → b.PassedTestsAreClean → b.MovesAreWrites →
    b.BorrowedViewsAreLent → b.OwnUpdatesAreSeen → RunsKeepPromises kind.Bits
of_b snapshots places turns clean moves lent own s items shape fit suffice =
    let same = eqb-true s.w s.n fit in record {
      snapshot = snapshots s items shape fit;
      has_places = of_square (HasPlaces kind.Bits) listing_b s.n s.w items same (places s.n items);
      wait_free = of_square (HasTurns kind.Bits) listing_b s.n s.w items same (turns s.n items);
      clean_tests = of_square (HasCleanTests kind.Bits) listing_b s.n s.w items same (clean s.n items);
      real_moves = of_square (MovesAreReal kind.Bits) listing_b s.n s.w items same (moves s.n items);
      lent_views =
          of_square (BorrowedViewsAreLent (borrowing_line kind.Bits)) listing_b s.n s.w items same (lent s.n items);
      own_updates = of_square (OwnUpdatesShow kind.Bits) listing_b s.n s.w items same (own s.n items);
    }

pub of_m : m.RunsAreSnapshots → m.OperationsHavePlaces → m.WaitFree → m.PassedTestsAreClean → m.MovesAreVisibleSteps →
    m.BorrowedViewsAreLent → RunsKeepPromises kind.Multi
of_m snapshots places turns clean moves lent s items shape fit suffice =
    let first = shape.1.0 in let some : 0 < s.w = omega (arith, first) in record {
      snapshot = snapshots s items shape fit;
      has_places = places s.n s.w items some;
      wait_free = turns s.n s.w items some;
      clean_tests = clean s.n s.w items some;
      real_moves = moves s.n s.w items some;
      lent_views = lent s.n s.w items some;
      own_updates = tt;
    }

pub of_each : RunsKeepPromises kind.Seq → RunsKeepPromises kind.Bits → RunsKeepPromises kind.Multi →
    (g : KindTag) → RunsKeepPromises g
of_each seq bits multi kind.Seq = seq
of_each seq bits multi kind.Bits = bits
of_each seq bits multi kind.Multi = multi
