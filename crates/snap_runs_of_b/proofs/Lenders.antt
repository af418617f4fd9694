-- A borrowed view of a scan of B is that of an embedded scan of the lender within it.
use Rattle.std.proofs.Common.{ℕ, List, refl}
use Rattle.snap_runs.proofs.Common.{Item, Op, Scan, Update}
use Rattle.snap_runs.proofs.Steady.{Steady}
use Rattle.snap_runs.proofs.Single as single
use Rattle.snap_runs_of_b.specs.Promises.{run_of, BorrowedViewsAreLent}
use Rattle.snap_runs_of_b.proofs.Algorithm.{L28, IsLate, counter}
use Rattle.snap_runs_of_b.proofs.Kept.{frame, kept, calm_kept}
use Rattle.snap_runs_of_b.proofs.Runs.{invariant, stage_of}

not_late : (op : Op) → IsLate (counter op) → ⊥
not_late Scan late = late
not_late (Update word value) late = late

lends : (n : ℕ) (items : List Item) (fits : Steady (run_of n items)) →
    single.Lends (frame n) (λ i word is. is) items (kept n items fits)
lends n items fits = record {
  sizes = λ t short. (invariant n items fits t short).size;
  pairs = λ t i k short one kone making more. (invariant n items fits t short).start i k one kone making more;
  counts = λ t k word value short one is. refl;
  views = λ t k word value. refl;
  late = tt;
  not_late = not_late;
}

pub borrowed_views_are_lent_lem : BorrowedViewsAreLent
borrowed_views_are_lent_lem n items =
    single.borrowed_views_are_lent (frame n) (λ i word is. is) items
    (calm_kept n items) 28 L28 refl (λ steady. lends n _ steady)
    (λ steady t i d le one at. (stage_of n _ steady t i d L28 le one at).1)
