-- What `why` prints of a chain of borrowed views: after a scan comes the lender, whose view it took, and so on.
use Rattle.std.proofs.Common.{◌≡◌, ◌<◌, ◌≤◌, ◌-◌, ◌++◌, ◌∙◌, ℕ, zero, suc, List, Option, Some, None, IfSome, sym}
use Rattle.std.proofs.Common.{append_assoc, append-nil, arith}
use Rattle.snap_acts.specs.declared.act.TraceStep.{TraceStep}
use Rattle.snap_acts.specs.Loans.{view_taken}
use Rattle.snap_acts.specs.declared.loans.Borrowed.{Borrowed}
use Rattle.snap_acts.specs.declared.loans.ScanPlaces.{ScanPlaces}
use Rattle.snap_why.specs.Answer.{chain_lines, lender_of, view_lines}

-- once the view of a scan is told, its lender's is next
pub goes_on : (ss : List TraceStep) (next : Option ScanPlaces) (s : ScanPlaces) (left : ℕ)
    (out out' all : List ℕ) (v : Option Borrowed) (l : Option ScanPlaces) →
    0 < left → next ≡ Some s → v ≡ view_taken ss s → l ≡ lender_of v → out' ≡ out ++ view_lines ss s v →
    out ++ chain_lines ss next left ≡ all → out' ++ chain_lines ss l (left - 1) ≡ all
goes_on ss next s zero out out' all v l some is taken lends told so_far = absurd (omega arith)
goes_on ss next s (suc left) out out' all v l some is taken lends told so_far =
    let m : suc left - 1 ≡ left = omega arith in
    rw (m, lends, told, taken, append_assoc) (rw is at so_far)

-- where there is no scan, nothing is left to tell
pub ends : (ss : List TraceStep) (next : Option ScanPlaces) (left : ℕ) (out all : List ℕ) →
    next ≡ None → out ++ chain_lines ss next left ≡ all → out ≡ all
ends ss next zero out all none so_far = sym (append-nil out) ∙ so_far
ends ss next (suc left) out all none so_far = sym (append-nil out) ∙ (rw none at so_far)

-- the lender's scan lies in the trace
pub lender_within : (v : Option Borrowed) (l : Option ScanPlaces) (n : ℕ) → l ≡ lender_of v →
    IfSome v (λ (b : Borrowed). IfSome b.lender (λ (s : ScanPlaces). s.to ≤ n)) →
    IfSome l (λ (s : ScanPlaces). s.to ≤ n)
lender_within None l n e within = rw e tt
lender_within (Some b) l n e within = rw e within
