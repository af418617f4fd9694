-- A borrowed view of a scan of U is that of an embedded scan of the lender within it.
use Rattle.std.proofs.Common.{ℕ, ◌+◌, List, refl, ◌∙◌, ap, arith}
use Rattle.snap_runs.proofs.Common.{Item, Op, Scan, Update}
use Rattle.snap_runs.proofs.Held.{seq_at}
use Rattle.snap_runs.proofs.Single as single
use Rattle.snap_runs_of_u.specs.Promises.{BorrowedViewsAreLent}
use Rattle.snap_runs_of_u.proofs.Algorithm.{Control, L24, IsLate, counter}
use Rattle.snap_runs_of_u.proofs.Invariant.{pending}
use Rattle.snap_runs_of_u.proofs.Kept.{frame, kept, calm_kept}
use Rattle.snap_runs_of_u.proofs.Ready.{Ready, ready}
use Rattle.snap_runs_of_u.proofs.Runs.{words_at, invariant, invariant_of, stage_of}

not_late : (op : Op) → IsLate (counter op) → ⊥
not_late Scan late = late
not_late (Update word value) late = late

lends : (n : ℕ) (items : List Item) (fits : Ready n items) →
    single.Lends (frame n) (λ i word is. is) items (kept n items fits)
lends n items fits = record {
  sizes = λ t short. (invariant n items fits t short).size;
  pairs = λ t i k short one kone making more. (invariant n items fits t short).start i k one kone making more;
  counts = λ t k word value short one is.
      (invariant_of n items fits t k (omega arith) one).seq
      ∙ ap (λ (y : Control). seq_at (words_at n items t) k + pending y) is;
  views = λ t k word value. refl;
  late = tt;
  not_late = not_late;
}

pub borrowed_views_are_lent_lem : BorrowedViewsAreLent
borrowed_views_are_lent_lem n items suffice =
    single.borrowed_views_are_lent (frame n) (λ i word is. is) items (calm_kept n items suffice) 24 L24 refl
    (λ steady. lends n _ (ready n items suffice steady))
    (λ steady t i d le one at. (stage_of n _ (ready n items suffice steady) t i d L24 le one at).1)
