-- Where the view in a local came from: which view a scan took, where it was written, and whose scan saw it. Places in
-- the trace of a run count from 0.
use Rattle.std.specs.Prelude.{ℕ, ◌-◌, List, Option, Some, None, get_or, nat_le, nat_lt, ◌&&◌, if◌then◌else◌}
use Rattle.snap_semantics.specs.Source.{Name}
use Rattle.snap_acts.specs.declared.act.Act.{Act}
use Rattle.snap_acts.specs.declared.act.Act.TheVariants as act
use Rattle.snap_acts.specs.declared.act.TraceStep.{TraceStep}
use Rattle.snap_acts.specs.Searches.{first_within, last_before, no_step, takes_view}
use Rattle.snap_acts.specs.declared.loans.Borrowed.{Borrowed}
use Rattle.snap_acts.specs.declared.loans.ScanPlaces.{ScanPlaces}
use Rattle.snap_acts.specs.declared.searches.StepPattern.TheVariants as wanted

-- the step at a place
abbrev pub step_at : List TraceStep → ℕ → TraceStep
step_at ss k = get_or ss k no_step

-- the view local whose view an item answers, returns or writes
abbrev pub handed_on : Act → Option Name
handed_on (act.Answer view x) = x
handed_on (act.Leave x) = Some x
handed_on (act.Write word values x) = x
handed_on (act.Publish k x) = Some x
handed_on _ = None

-- the last place before place k at which process i set view local x
abbrev pub set_before : List TraceStep → ℕ → Name → ℕ → Option ℕ
set_before ss i x k = last_before (wanted.Sets i x) ss k

-- the item that set a local, if there is one
abbrev pub set_if_named : List TraceStep → ℕ → Option Name → ℕ → Option ℕ
set_if_named ss i None k = None
set_if_named ss i (Some x) k = set_before ss i x k

-- the place at which the view was set that the item at place k hands on
abbrev pub set_for : List TraceStep → ℕ → Option ℕ
set_for ss k = set_if_named ss (step_at ss k).process (handed_on (step_at ss k).act) k

-- the word that an item reads
abbrev pub word_read : Act → Option ℕ
word_read (act.Read word spot) = Some word
word_read _ = None

-- the last place before place k at which a word was written
abbrev pub write_before : List TraceStep → ℕ → Option ℕ → Option ℕ
write_before ss k None = None
write_before ss k (Some word) = last_before (wanted.WriteOf word) ss k

-- the place at which the word was written that the item at a place reads
abbrev pub write_read : List TraceStep → Option ℕ → Option ℕ
write_read ss None = None
write_read ss (Some k) = write_before ss k (word_read (step_at ss k).act)

-- The place at which the view was written that an item of process i at place k sets: in register v[j], or beside the
-- word that the process had read last into the place from which it takes the view. A view that is made of words was
-- written nowhere.
abbrev pub source_by : List TraceStep → ℕ → ℕ → Act → Option ℕ
source_by ss k i (act.Look j x) = last_before (wanted.Published j) ss k
source_by ss k i (act.Borrow spot x) = write_read ss (last_before (wanted.ReadInto i spot) ss k)
source_by ss k i _ = None

-- the source of the item at a place
abbrev pub source_at : List TraceStep → Option ℕ → Option ℕ
source_at ss None = None
source_at ss (Some k) = source_by ss k (step_at ss k).process (step_at ss k).act

-- the place at which the view was written that view local x of process i has before place k
abbrev pub source_of : List TraceStep → ℕ → Name → ℕ → Option ℕ
source_of ss i x k = source_at ss (set_before ss i x k)

-- the scan of process i from place a to a place, where place d is before that
abbrev pub scan_to : ℕ → ℕ → ℕ → Option ℕ → Option ScanPlaces
scan_to i a d None = None
scan_to i a d (Some e) = if nat_lt d e then Some (record { process = i; from = a; to = e }) else None

-- the scan of an update of process i that began at a place, within which place d lies, and which ended before place k
abbrev pub scan_from : List TraceStep → ℕ → ℕ → ℕ → Option ℕ → Option ScanPlaces
scan_from ss i d k None = None
scan_from ss i d k (Some a) = scan_to i a d (first_within (wanted.Leave i) ss a (k - a))

-- the scan of an update of process i within which a place lies, and which ended before place k
abbrev pub scan_around : List TraceStep → ℕ → ℕ → Option ℕ → Option ScanPlaces
scan_around ss i k None = None
scan_around ss i k (Some d) = scan_from ss i d k (last_before (wanted.Enter i) ss d)

-- the scan that saw the view that was written at a place: the one in which its writer set the local that it wrote
abbrev pub lender_at : List TraceStep → Option ℕ → Option ScanPlaces
lender_at ss None = None
lender_at ss (Some k) = scan_around ss (step_at ss k).process k (set_for ss k)

-- a place at which a view was taken, not before place a
abbrev pub taken_from : List TraceStep → ℕ → Option ℕ → Option ℕ
taken_from ss a None = None
taken_from ss a (Some k) = if nat_le a k && takes_view (step_at ss k).act then Some k else None

-- the place at which a scan took the view that it ends with
abbrev pub taken_in : List TraceStep → ScanPlaces → Option ℕ
taken_in ss s = taken_from ss s.from (set_for ss s.to)

-- the view that was taken at a place: where it was written, and which scan saw it
abbrev pub view_taken_at : List TraceStep → Option ℕ → Option Borrowed
view_taken_at ss None = None
view_taken_at ss (Some k) = Some (record {
  taken = k;
  written = source_at ss (Some k);
  lender = lender_at ss (source_at ss (Some k));
})

-- the view that a scan took and ends with
unfoldable pub view_taken : List TraceStep → ScanPlaces → Option Borrowed
view_taken ss s = view_taken_at ss (taken_in ss s)
