-- The scans of a run, called or embedded in an operation, in the order in which they began. Places in the trace of a
-- run count from 0.
use Rattle.std.specs.Prelude.{ℕ, zero, suc, ◌+◌, ◌-◌, Bool, true, false, ◌&&◌, List, [], ◌∷◌, ◌++◌, length}
use Rattle.std.specs.Prelude.{Option, Some, None, get_or, min, nat_eq, if◌then◌else◌}
use Rattle.snap_semantics.specs.declared.process.Op.{Op}
use Rattle.snap_semantics.specs.declared.process.Op.TheVariants as op
use Rattle.snap_acts.specs.Loans.{step_at}
use Rattle.snap_acts.specs.Searches.{first_within}
use Rattle.snap_acts.specs.declared.act.Act.{Act}
use Rattle.snap_acts.specs.declared.act.Act.TheVariants as act
use Rattle.snap_acts.specs.declared.act.TraceStep.{TraceStep}
use Rattle.snap_acts.specs.declared.loans.ScanPlaces.{ScanPlaces}
use Rattle.snap_acts.specs.declared.searches.StepPattern.{StepPattern}
use Rattle.snap_acts.specs.declared.searches.StepPattern.TheVariants as wanted
use Rattle.snap_anatomy.specs.Notes.{note_at}
use Rattle.snap_anatomy.specs.declared.note.Note.{Note}
use Rattle.snap_anatomy.specs.declared.note.Note.TheVariants as note
use Rattle.snap_anatomy.specs.declared.scans.Scan.{Scan}

abbrev pub is_scan : Op → Bool
is_scan op.Scan = true
is_scan (op.Update word value) = false

-- a scan is called, or begins within an operation
abbrev pub begins_scan : Act → Bool
begins_scan (act.Call o) = is_scan o
begins_scan act.Enter = true
begins_scan _ = false

-- what ends the scan of process i that began so
abbrev pub ending : Act → ℕ → StepPattern
ending act.Enter i = wanted.Closing i
ending _ i = wanted.End i

abbrev pub is_call : Act → Bool
is_call (act.Call o) = true
is_call _ = false

-- a call of process i
abbrev pub is_call_by : ℕ → TraceStep → Bool
is_call_by i s = is_call s.act && nat_eq s.process i

-- the last place before place k at which process i called an operation
abbrev pub call_before : List TraceStep → ℕ → ℕ → Option ℕ
call_before ss i zero = None
call_before ss i (suc k) = if is_call_by i (step_at ss k) then Some k else call_before ss i k

-- the call of the operation within which a scan began so
abbrev pub around : List TraceStep → (i k : ℕ) → Act → Option ℕ
around ss i k act.Enter = call_before ss i k
around ss i k _ = None

-- the scan that began at a place
unfoldable pub scan_from : List TraceStep → ℕ → Scan
scan_from ss k = record {
  process = (step_at ss k).process;
  from = k;
  to = first_within (ending (step_at ss k).act (step_at ss k).process) ss (k + 1) (length ss - (k + 1));
  around = around ss (step_at ss k).process k (step_at ss k).act;
}

unfoldable pub scan_at : List TraceStep → ℕ → List Scan
scan_at ss k = if begins_scan (step_at ss k).act then scan_from ss k ∷ [] else []

-- the scans that the first k steps began
abbrev pub scans_to : List TraceStep → ℕ → List Scan
scans_to ss zero = []
scans_to ss (suc k) = scans_to ss k ++ scan_at ss k

abbrev pub scans_of : List TraceStep → List Scan
scans_of ss = scans_to ss (length ss)

-- stands where there is no scan
abbrev pub no_scan : Scan
no_scan = record { process = 0; from = 0; to = None; around = None }

abbrev pub scan_in : List Scan → ℕ → Scan
scan_in xs k = get_or xs k no_scan

-- the view of a note
abbrev pub view_in : Note → Option (List ℕ)
view_in (note.View v) = Some v
view_in _ = None

-- the view with which a scan ended so
abbrev pub view_by : Act → Note → Option (List ℕ)
view_by (act.Answer v x) n = Some v
view_by (act.Leave x) n = view_in n
view_by _ n = None

-- the view with which a scan ended at this place
abbrev pub view_at : List TraceStep → List Note → Option ℕ → Option (List ℕ)
view_at ss ns None = None
view_at ss ns (Some k) = view_by (step_at ss k).act (note_at ns k)

-- where a scan ends, within so many places
abbrev pub end_or : ℕ → Option ℕ → ℕ
end_or count None = count
end_or count (Some k) = min k count
