-- A certificate of a run: for each update the item at which it writes, and for each answered scan a point. It shows
-- that the run is linearizable.
use Rattle.std.specs.Prelude.{◌≡◌, ℕ, suc, ◌-◌, ◌<◌, ◌≤◌, ◌⊎◌, true, List, length, None, slice_set}
use Rattle.std.specs.List.{All, AllPairs, Contains}
use Rattle.snap_words.specs.Shape.{IsOneOf}
use Rattle.snap_semantics.specs.State.{values}
use Rattle.snap_runs.specs.Linearization.{IsLinearizable}
use Rattle.snap_runs.specs.LinearizationPoints.{HasLinearizationPoints}
use Rattle.snap_runs.specs.Placement.{OperationsHavePlaces}
use Rattle.snap_runs.specs.Run.{Run, IsValidRun, state, before}
use Rattle.snap_runs.specs.Scan.{FinishedScan}
use Rattle.snap_runs.specs.Update.{executes, IsDone, PendingUpdate}

-- Process `process` called an update of `word` to `value` at item `call`, and writes it at item `item`.
pub record UpdateWrite : Type 0 where
  pub process : ℕ
  pub word : ℕ
  pub value : ℕ
  pub call : ℕ
  pub item : ℕ

-- Process `process` called a scan at item `call`, which answered `view` at item `answer`; `item` is a point of it.
pub record ScanPoint : Type 0 where
  pub process : ℕ
  pub view : List ℕ
  pub call : ℕ
  pub answer : ℕ
  pub item : ℕ

pub record Certificate : Type 0 where
  pub writes : List UpdateWrite
  pub points : List ScanPoint

-- The run has such an update, and it writes there.
pub record IsWriteOf (line : ℕ) (r : Run) (w : UpdateWrite) : Type 0 where
  -- the update was called before its write, and had not ended
  pub updating : PendingUpdate r w.process w.word w.value w.call w.item
  pub called : w.call < w.item
  pub is_word : IsOneOf r.shape.w w.word
  -- there its process executes the line that writes
  pub executed : executes r w.process line w.item ≡ true
  -- what it was called for is written, and no other value changes
  pub written : values (state r w.item) ≡ slice_set (values (before r w.item)) (w.word - 1) w.value

-- The run has such a scan, and this is a point of it.
pub record IsPointOf (r : Run) (p : ScanPoint) : Type 0 where
  pub finished : FinishedScan r p.process None p.call p.answer p.view
  pub called : p.call ≤ p.item
  pub answered : p.item ≤ p.answer
  pub held : values (state r p.item) ≡ p.view

-- One of these writes is at item t.
abbrev pub WritesAtItem : List UpdateWrite → ℕ → Type 0
WritesAtItem ws t = (w : UpdateWrite) × Contains ws w × (w.item ≡ t)

-- Item c called an update, and its write is one of these.
abbrev pub HasWrite : List UpdateWrite → ℕ → Type 0
HasWrite ws c = (w : UpdateWrite) × Contains ws w × (w.call ≡ c)

-- Item c called a scan, and its point is one of these.
abbrev pub HasItsPoint : List ScanPoint → ℕ → Type 0
HasItsPoint ps c = (p : ScanPoint) × Contains ps p × (p.call ≡ c)

-- A certificate of a run in which updates write at this line. It may name the write of an update that has not ended.
pub record IsCertificate (line : ℕ) (r : Run) (c : Certificate) : Type 0 where
  -- each write is one of an update of the run, and each point one of a scan of the run
  pub writes_are : All (IsWriteOf line r) c.writes
  pub points_are : All (IsPointOf r) c.points
  -- no update has two writes
  pub once : AllPairs (λ a b. a.call ≡ b.call → ⊥) c.writes
  -- each item that executes the line is among the writes
  pub executions : (i t : ℕ) → t < length r.items → executes r i line (suc t) ≡ true → WritesAtItem c.writes (suc t)
  -- each item that changes the values is among the writes
  pub changes : (t : ℕ) → t < length r.items →
      (values (state r (suc t)) ≡ values (state r t)) ⊎ WritesAtItem c.writes (suc t)
  -- each update that has ended has its write
  pub updates_ended : (i word value c' e : ℕ) → PendingUpdate r i word value c' e → c' < e →
      IsDone r i e → HasWrite c.writes c'
  -- each scan that has been answered has its point
  pub scans_answered : (i c' e : ℕ) (view : List ℕ) → FinishedScan r i None c' e view → HasItsPoint c.points c'

-- A run has a certificate.
abbrev pub HasCertificate : ℕ → Run → Type 0
HasCertificate line r = IsValidRun r → (c : Certificate) × IsCertificate line r c

-- A run of any listing that has a certificate is linearizable.
abbrev pub CertifiedIsLinearizable : Type 0
CertifiedIsLinearizable = (line : ℕ) (r : Run) → HasCertificate line r → IsLinearizable r

-- Each of its operations has its place.
abbrev pub CertifiedHasPlaces : Type 0
CertifiedHasPlaces = (line : ℕ) (r : Run) → HasCertificate line r → OperationsHavePlaces line r

-- A run has a certificate exactly where its operations have linearization points.
abbrev pub CertifiedByPoints : Type 0
CertifiedByPoints = (line : ℕ) (r : Run) → (HasCertificate line r → HasLinearizationPoints line r)
    × (HasLinearizationPoints line r → HasCertificate line r)
