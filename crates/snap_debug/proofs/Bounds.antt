-- The last stop that the debugger finds before a position of a run, `last_stop`, is itself a position of the run.
use Rattle.std.proofs.Common.{◌≡◌, ◌≤◌, ℕ, zero, suc, length, Result, Ok, Err, arith}
use Rattle.std.specs.Prelude.{IfOk}
use Rattle.snap_runs.specs.Run.{Run}
use Rattle.snap_debug.specs.Marks.{Marks, last_stop}

last_within : (r : Run) (m : Marks) (t : ℕ) → last_stop r m t ≤ t
last_within r m zero = omega arith
last_within r m (suc t) = grind (arith, last_within r m t)

pub last_found : {E : Type 0} (r : Run) (m : Marks) (t : ℕ) (found : Result ℕ E) → t ≤ length r.items →
    IfOk found (λ k. k ≡ last_stop r m t) → IfOk found (λ k. k ≤ length r.items)
last_found r m t (Ok k) within is = omega (arith, last_within r m t, is, within)
last_found r m t (Err e) within is = tt
