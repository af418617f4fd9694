-- The least point of a scan is found by an audit from the changes of the values (`least_by`).
use Rattle.std.proofs.Common.{◌≡◌, ℕ, zero, suc, ◌+◌, ◌<◌, ◌≤◌, List, false, refl, arith}
use Rattle.std.specs.Prelude.{bytes_eq}
use Rattle.snap_semantics.specs.State.{values}
use Rattle.snap_runs.specs.Audit.{least_point}
use Rattle.snap_runs.specs.Run.{Run, state}
use Rattle.snap_record.specs.History.{values_by}
use Rattle.snap_record.specs.declared.history.Change.{Change}
use Rattle.snap_audit.specs.Sweep.{least_by}

-- the least point is found by the changes
pub least_is : (r : Run) (vs : List ℕ) (xs : List Change) (view : List ℕ) (t more : ℕ) →
    ((u : ℕ) → t ≤ u → u < t + more → values (state r u) ≡ values_by vs xs u) →
    least_by vs xs view t more ≡ least_point r view t more
least_is r vs xs view t zero h = refl
least_is r vs xs view t (suc more) h =
    let rest = least_is r vs xs view (suc t) more (λ u low high. h u (omega arith) (omega arith)) in
    rw (h t (omega arith) (omega arith), rest)

-- where the values are not the view, the least point is not either
pub none_between : (vs : List ℕ) (xs : List Change) (view : List ℕ) (gap t left : ℕ) →
    ((u : ℕ) → t ≤ u → u < t + gap → bytes_eq (values_by vs xs u) view ≡ false) →
    least_by vs xs view t (gap + left) ≡ least_by vs xs view (t + gap) left
none_between vs xs view zero t left h =
    let none : zero + left ≡ left = omega arith in let here : t + zero ≡ t = omega arith in rw (none, here)
none_between vs xs view (suc gap) t left h =
    let one : suc gap + left ≡ suc (gap + left) = omega arith in
    let there : t + suc gap ≡ suc t + gap = omega arith in
    let rest = none_between vs xs view gap (suc t) left (λ u low high. h u (omega arith) (omega arith)) in
    rw (one, there, h t (omega arith) (omega arith)) rest
