-- Where the view with which a scan ended was read: in a clean double collect of its own, or in one of the scan that
-- lent it, through borrowers of borrowers.
use Rattle.std.specs.Prelude.{ℕ, zero, suc, ◌-◌, Bool, true, false, List, [], ◌∷◌, length}
use Rattle.std.specs.Prelude.{Option, Some, None, nat_eq, if◌then◌else◌, slice_index}
use Rattle.snap_acts.specs.Loans.{step_at, view_taken}
use Rattle.snap_acts.specs.declared.act.TraceStep.{TraceStep}
use Rattle.snap_acts.specs.declared.loans.Borrowed.{Borrowed}
use Rattle.snap_acts.specs.declared.loans.ScanPlaces.{ScanPlaces}
use Rattle.snap_anatomy.specs.Collects.{gap_of, is_passed, places_between, start_of}
use Rattle.snap_anatomy.specs.declared.collects.Sought.TheVariants as sought
use Rattle.snap_anatomy.specs.declared.memory.Span.{Span}

-- no view was taken
abbrev pub is_own : Option Borrowed → Bool
is_own None = true
is_own (Some b) = false

-- the scan that lent a view
abbrev pub lender_of : Option Borrowed → Option ScanPlaces
lender_of None = None
lender_of (Some b) = b.lender

-- The scan that read the view with which a scan ended: that scan itself, if it took no view, and else the one that
-- read the view of its lender; it is sought so many scans far.
abbrev pub source_of : List TraceStep → Option ScanPlaces → ℕ → Option ScanPlaces
source_of ss s zero = None
source_of ss None (suc more) = None
source_of ss (Some s) (suc more) =
    if is_own (view_taken ss s) then Some s else source_of ss (lender_of (view_taken ss s)) more

-- the gap of the double collect that the test at place j of these ends, where that test passed; a is where the scan of
-- process i began
abbrev pub clean_gap : List TraceStep → (i a : ℕ) → (tests : List ℕ) → ℕ → Option Span
clean_gap ss i a ts j =
    if is_passed (step_at ss (slice_index ts j)).act
    then gap_of ss (places_between sought.Read ss i (start_of a ts j) (slice_index ts j))
    else None

-- the same of the last of these tests
abbrev pub last_clean_gap : List TraceStep → (i a : ℕ) → (tests : List ℕ) → Option Span
last_clean_gap ss i a ts = if nat_eq (length ts) 0 then None else clean_gap ss i a ts (length ts - 1)

-- the gap of the last double collect of a scan, where its test passed
unfoldable pub last_gap : List TraceStep → ScanPlaces → Option Span
last_gap ss s = last_clean_gap ss s.process s.from (places_between sought.Test ss s.process s.from s.to)
