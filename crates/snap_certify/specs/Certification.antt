-- The certification of a run: whether it has a certificate, found item by item, and otherwise the first thing that is
-- missing.
use Rattle.std.specs.Prelude.{◌≡◌, ◌↔◌, ℕ, zero, suc, ◌-◌, Bool, true, false, ◌||◌, not, List, [], ◌∷◌, ◌++◌, length}
use Rattle.std.specs.Prelude.{map, option_map, Option, Some, None, Result, Ok, Err, IsOk, bytes_eq, nat_eq}
use Rattle.std.specs.Prelude.{if◌then◌else◌, slice_set}
use Rattle.snap_semantics.specs.Answers.{◌>>=◌}
use Rattle.snap_semantics.specs.State.{process_at, values}
use Rattle.snap_semantics.specs.Table.{who}
use Rattle.snap_semantics.specs.declared.instr.Instr.{Instr}
use Rattle.snap_semantics.specs.declared.instr.Instr.TheVariants.{Put}
use Rattle.snap_semantics.specs.declared.instr.Line.{Line}
use Rattle.snap_semantics.specs.declared.process.Activity.{Activity}
use Rattle.snap_semantics.specs.declared.process.Item.{Item}
use Rattle.snap_semantics.specs.declared.process.Item.TheVariants.{Step}
use Rattle.snap_semantics.specs.declared.process.Op.{Op}
use Rattle.snap_semantics.specs.declared.process.Op.TheVariants as op
use Rattle.snap_semantics.specs.declared.process.Outcome.{Outcome}
use Rattle.snap_semantics.specs.declared.process.Outcome.TheVariants as outcome
use Rattle.snap_semantics.specs.declared.process.Status.{Status}
use Rattle.snap_semantics.specs.declared.process.Status.TheVariants.{Busy}
use Rattle.snap_runs.specs.Audit.{audit, is_called}
use Rattle.snap_runs.specs.Linearization.{IsLinearizable}
use Rattle.snap_runs.specs.LinearizationPoints.{HasLinearizationPoints}
use Rattle.snap_runs.specs.Run.{Run, IsValidRun, state, before, item, outcome as outcome_at}
use Rattle.snap_runs.specs.Update.{goes_on}
use Rattle.snap_runs.specs.declared.verdict.Verdict.{Verdict}
use Rattle.snap_certify.specs.Certificate as certificate
use Rattle.snap_certify.specs.Certificate.{Certificate, IsCertificate, ScanPoint}
use Rattle.snap_certify.specs.declared.certificate.Certification.{Certification}
use Rattle.snap_certify.specs.declared.certificate.Certification.TheVariants as certification
use Rattle.snap_certify.specs.declared.found.Finding.{Finding}
use Rattle.snap_certify.specs.declared.found.Finding.TheVariants as finding
use Rattle.snap_certify.specs.declared.found.Lack.{Lack}
use Rattle.snap_certify.specs.declared.found.Lack.TheVariants as lack
use Rattle.snap_certify.specs.declared.found.Missing.{Missing}
use Rattle.snap_certify.specs.declared.found.Progress.{Progress}
use Rattle.snap_certify.specs.declared.found.SeenItem.{SeenItem}
use Rattle.snap_certify.specs.declared.found.UpdateWrite.{UpdateWrite}

-- what a step finds a busy process at
abbrev pub stepping : Item → Status → Option Activity
stepping (Step i) (Busy a) = Some a
stepping _ _ = None

-- item t: its process, what it finds that at, what comes of it, and the values before and after it
abbrev pub seen_item : Run → ℕ → SeenItem
seen_item r t = record {
  process = who (item r t);
  activity = stepping (item r t) (process_at (before r t) (who (item r t))).status;
  outcome = outcome_at r t;
  values_before = values (before r t);
  values_after = values (state r t);
}

-- whether an item changes the values
abbrev pub changes : SeenItem → Bool
changes x = not (bytes_eq x.values_before x.values_after)

-- what it executes: what a step finds its process at, where that goes on
abbrev pub executed : SeenItem → Option Activity
executed x = if goes_on x.outcome then x.activity else None

-- whether what is executed is this line
abbrev pub at_line : ℕ → Option Activity → Bool
at_line line None = false
at_line line (Some a) = nat_eq a.line line

-- The line at which updates write: that of the first item that changes the values. Where no item changes them, it is
-- the first line of the listing that writes a word, and 0 where no line does.

-- the line of the first item that changes the values, among so many items after item t
abbrev pub changing_line : Run → ℕ → ℕ → Option ℕ
changing_line r t zero = None
changing_line r t (suc more) =
    if changes (seen_item r (suc t)) then option_map (λ (a : Activity). a.line) (executed (seen_item r (suc t)))
    else changing_line r (suc t) more

-- a line that writes a word
abbrev pub is_put : Instr → Bool
is_put (Put i t) = true
is_put _ = false

-- the number of the first line that writes a word
abbrev pub putting_line : List Line → ℕ
putting_line [] = 0
putting_line (line ∷ lines) = if is_put line.instr then line.number else putting_line lines

-- the one, or the other where there is none
abbrev pub line_or : Option ℕ → ℕ → ℕ
line_or None other = other
line_or (Some line) other = line

abbrev pub write_line : Run → ℕ
write_line r = line_or (changing_line r 0 (length r.items)) (putting_line r.source.lines)

-- How far process i is with its last call, once it is through item t: a call starts anew.
abbrev pub progress_after : ℕ → ℕ → SeenItem → Progress → Progress
progress_after line t x p =
    if is_called x.outcome then record { call = t; wrote = false }
    else record { call = p.call; wrote = p.wrote || at_line line (executed x) }

-- after the first t items
abbrev pub progress : Run → ℕ → ℕ → ℕ → Progress
progress r line i zero = record { call = 0; wrote = false }
progress r line i (suc t) =
    if nat_eq (who (item r (suc t))) i then progress_after line (suc t) (seen_item r (suc t)) (progress r line i t)
    else progress r line i t

-- the finding that something is missing at item t
abbrev pub lacks : Lack → ℕ → SeenItem → Progress → Finding
lacks l t x p = finding.Lacks (record { lack = l; process = x.process; call = p.call; item = t })

-- what is written by item t, which executes the line under this operation, where its process was so far before it
abbrev pub written : ℕ → SeenItem → Progress → Op → Finding
written t x p op.Scan = lacks lack.Update t x p
written t x p (op.Update word value) =
    if p.wrote then lacks lack.FirstWrite t x p
    else if bytes_eq x.values_after (slice_set x.values_before (word - 1) value)
    then finding.Write (record { process = x.process; word = word; value = value; call = p.call; item = t })
    else lacks lack.OwnValue t x p

-- an item that does not execute the line leaves the values, or the line is missing
abbrev pub unwritten : ℕ → SeenItem → Progress → Finding
unwritten t x p = if changes x then lacks lack.Line t x p else finding.Nothing

-- what is found of item t by what it executes
abbrev pub stepped : ℕ → ℕ → SeenItem → Progress → Option Activity → Finding
stepped line t x p None = unwritten t x p
stepped line t x p (Some a) = if nat_eq a.line line then written t x p a.op else unwritten t x p

-- what is found of an item that ends an update: nothing if the update has written before it
abbrev pub ended : ℕ → SeenItem → Progress → Outcome → Finding
ended t x p outcome.Finished = if p.wrote then finding.Nothing else lacks lack.Write t x p
ended t x p _ = finding.Nothing

-- the first finding, or the second if the first is nothing
abbrev pub finding_or : Finding → Finding → Finding
finding_or finding.Nothing other = other
finding_or found other = found

-- what is found at item t
abbrev pub found_at : ℕ → ℕ → SeenItem → Progress → Finding
found_at line t x p = finding_or (stepped line t x p (executed x)) (ended t x p x.outcome)

-- with what is found at one item more
abbrev pub with_finding : List UpdateWrite → Finding → Result (List UpdateWrite) Missing
with_finding ws finding.Nothing = Ok ws
with_finding ws (finding.Write w) = Ok (ws ++ w ∷ [])
with_finding ws (finding.Lacks missing) = Err missing

-- the writes of the first t items, or the first thing that is missing there
abbrev pub writes : Run → ℕ → ℕ → Result (List UpdateWrite) Missing
writes r line zero = Ok []
writes r line (suc t) =
    writes r line t >>= λ ws.
    with_finding ws (found_at line (suc t) (seen_item r (suc t)) (progress r line (who (item r (suc t))) t))

-- a scan without a point lacks it at its answer
abbrev pub point_of : Verdict → Option ℕ → Result (Unit {0}) Missing
point_of v (Some t) = Ok tt
point_of v None = Err (record { lack = lack.Point; process = v.process; call = v.call; item = v.answer })

-- each of these scans has a point, or the first one that has none lacks it
abbrev pub points : List Verdict → Result (Unit {0}) Missing
points [] = Ok tt
points (v ∷ vs) = point_of v v.point >>= λ has. points vs

-- what a run is certified by: the line at which updates write, the writes, and the verdicts of the answered scans
pub record Evidence : Type 0 where
  pub line : ℕ
  pub writes : List UpdateWrite
  pub points : List Verdict

-- What a run is certified by, or the first thing that is missing: of the writes, in the order of the items, and then
-- of the points, in the order of the answers.
abbrev pub certification_of : Run → Result Evidence Missing
certification_of r =
    writes r (write_line r) (length r.items) >>= λ ws. points (audit r) >>= λ has.
    Ok (record { line = write_line r; writes = ws; points = audit r })

-- what is answered
abbrev pub seen_certification : Certification → Result Evidence Missing
seen_certification (certification.Certified c) =
    Ok (record { line = c.line; writes = c.writes.items; points = c.points.items })
seen_certification (certification.Missing missing) = Err missing

-- The certificate that this is evidence of.
abbrev pub certificate_write : UpdateWrite → certificate.UpdateWrite
certificate_write w = record { process = w.process; word = w.word; value = w.value; call = w.call; item = w.item }

-- the item at which a scan has its point
abbrev pub point_item : Option ℕ → ℕ
point_item None = 0
point_item (Some t) = t

abbrev pub certificate_point : Run → Verdict → ScanPoint
certificate_point r v = record {
  process = v.process;
  view = values (state r (point_item v.point));
  call = v.call;
  answer = v.answer;
  item = point_item v.point;
}

abbrev pub certificate_of : Run → Evidence → Certificate
certificate_of r e = record { writes = map certificate_write e.writes; points = map (certificate_point r) e.points }

-- What a run is certified by is a certificate of it, so that it is linearizable.
abbrev pub CertifiedHasCertificate : Type 0
CertifiedHasCertificate = (r : Run) → IsValidRun r → (e : Evidence) → certification_of r ≡ Ok e →
    IsCertificate (write_line r) r (certificate_of r e) × IsLinearizable r

-- A run is certified exactly where it has a certificate in which updates write at this line.
abbrev pub CertifiedExactly : Type 0
CertifiedExactly =
    (r : Run) → IsValidRun r → IsOk (certification_of r) ↔ ((c : Certificate) × IsCertificate (write_line r) r c)

-- A run whose operations have linearization points is certified, where its updates write at the first line of the
-- listing that writes a word: that is the line that is chosen.
abbrev pub PointsCertify : Type 0
PointsCertify =
    (line : ℕ) (r : Run) → IsValidRun r → putting_line r.source.lines ≡ line → HasLinearizationPoints line r →
    (write_line r ≡ line) × IsOk (certification_of r)
