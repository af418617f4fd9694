-- The operations of a run: what each process was asked for, from the call to the end.
use Rattle.std.specs.Prelude.{◌≡◌, ℕ, suc, ◌<◌, List, length, Option, Some, None}
use Rattle.snap_semantics.specs.declared.process.Outcome.TheVariants.{Answered, Finished}
use Rattle.snap_semantics.specs.Table.{who}
use Rattle.snap_runs.specs.Run.{Run, IsValidRun, item, outcome}
use Rattle.snap_runs.specs.Scan.{FinishedScan}
use Rattle.snap_runs.specs.Update.{IsDone, PendingUpdate}

-- what an operation does: an update sets a word to a value, a scan sees a view
pub data Action : Type 0 where
  Sets : (word value : ℕ) → Action
  Sees : (view : List ℕ) → Action

-- An operation: the process that called it, the item of the call, the item of the end, where
-- it has ended, and what it does.
pub record Operation : Type 0 where
  pub process : ℕ
  pub call : ℕ
  pub end : Option ℕ
  pub action : Action

-- Process i called such an operation at item c, and it ended so.
abbrev pub TookPlace : Run → ℕ → ℕ → Option ℕ → Action → Type 0
-- an update, which was done at item e
TookPlace r i c (Some e) (Sets word value) = PendingUpdate r i word value c e × (c < e) × IsDone r i e
-- an update, which is not done by the end of the run
TookPlace r i c None (Sets word value) =
    PendingUpdate r i word value c (length r.items) × (IsDone r i (length r.items) → ⊥)
-- a scan, which answered this view at item e
TookPlace r i c (Some e) (Sees view) = FinishedScan r i None c e view
-- a scan that has not ended has seen no view yet
TookPlace r i c None (Sees view) = ⊥

-- An operation of this run. A scan that is embedded in an update is none.
abbrev pub IsOperation : Run → Operation → Type 0
IsOperation r o = TookPlace r o.process o.call o.end o.action

-- An operation has ended at some item.
abbrev pub HasEnded : Operation → Type 0
HasEnded o = (e : ℕ) × (o.end ≡ Some e)

-- The first one ended before the second one was called.
abbrev pub EndedBefore : Operation → Operation → Type 0
EndedBefore first second = (e : ℕ) × (first.end ≡ Some e) × (e < second.call)

-- Each answer of a run, and each end of an update, is the end of one of its operations.
abbrev pub EndsAreOfOperations : Type 0
EndsAreOfOperations = (r : Run) → IsValidRun r → (t : ℕ) → t < length r.items →
    ((view : List ℕ) → outcome r (suc t) ≡ Answered view →
    (c : ℕ)
    × IsOperation r (record { process = who (item r (suc t)); call = c; end = Some (suc t); action = Sees view }))
    × (outcome r (suc t) ≡ Finished →
    (c : ℕ) × (word : ℕ) × (value : ℕ)
    × IsOperation r (record { process = who (item r (suc t)); call = c; end = Some (suc t); action = Sets word value }))
