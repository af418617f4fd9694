-- Runs of U without crashes that have enough sequence numbers, and the one through which a run with crashes is looked
-- at.
use Rattle.std.proofs.Common.{ℕ, ◌<◌, ◌^◌, List, subst, sym}
use Rattle.snap_semantics.specs.declared.process.Item.{Item}
use Rattle.snap_runs.proofs.Calm.{calm, calm_list, same_length}
use Rattle.snap_runs.proofs.Steady.{Steady}
use Rattle.snap_runs_of_u.specs.Promises.{run_of, SequenceNumbersSuffice}

pub record Ready (n : ℕ) (items : List Item) : Type 0 where
  pub steady : Steady (run_of n items)
  pub suffice : SequenceNumbersSuffice items

-- without crashes there are as many items, so sequence numbers suffice
pub ready : (n : ℕ) (items : List Item) → SequenceNumbersSuffice items → Steady (calm (run_of n items)) →
    Ready n (calm_list (run_of n items))
ready n items suffice steady =
    record { steady = steady; suffice = subst (λ k. k < 2 ^ 64) (sym (same_length (run_of n items))) suffice }
