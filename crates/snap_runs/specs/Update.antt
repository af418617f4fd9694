-- `PendingUpdate`: an update of a run that is not done before
-- an item; and the items at which a process executes a line.
use Rattle.std.specs.Prelude.{◌≡◌, ℕ, ◌<◌, ◌≤◌, Bool, true, false, ◌&&◌, length, nat_eq}
use Rattle.snap_words.specs.Shape.{IsOneOf}
use Rattle.snap_semantics.specs.declared.process.Cause.{Cause}
use Rattle.snap_semantics.specs.declared.process.Item.TheVariants.{Call}
use Rattle.snap_semantics.specs.declared.process.Op.TheVariants.{Update}
use Rattle.snap_semantics.specs.declared.process.Outcome.{Outcome}
use Rattle.snap_semantics.specs.declared.process.Outcome.TheVariants.{Called, Finished, Trapped}
use Rattle.snap_semantics.specs.declared.process.Status.{Status}
use Rattle.snap_semantics.specs.declared.process.Status.TheVariants.{Busy}
use Rattle.snap_semantics.specs.State.{process_at}
use Rattle.snap_semantics.specs.Table.{who}
use Rattle.snap_runs.specs.Run.{Run, before, item, outcome}
use Rattle.snap_runs.specs.Scan.{steps}

-- busy at the line with this number
abbrev pub is_at : ℕ → Status → Bool
is_at line (Busy a) = nat_eq a.line line
is_at line _ = false

-- whether the process goes on: it does not trap
abbrev pub goes_on : Outcome → Bool
goes_on (Trapped cause) = false
goes_on _ = true

-- process i executes this line at item t: it steps there, standing at the line, and goes on
abbrev pub executes : Run → ℕ → ℕ → ℕ → Bool
executes r i line t =
    steps i (item r t) && (is_at line (process_at (before r t) i).status && goes_on (outcome r t))

-- A line that traps is not executed.
abbrev pub TrapsExecuteNothing : Type 0
TrapsExecuteNothing =
    (r : Run) (i line t : ℕ) (cause : Cause) → outcome r t ≡ Trapped cause → executes r i line t ≡ false

-- an update of process i is done at item t
abbrev pub IsDone : Run → ℕ → ℕ → Type 0
IsDone r i t = (who (item r t) ≡ i) × (outcome r t ≡ Finished)

-- Item c calls an update of this word to this value by process i, which is not done before item e.
pub record PendingUpdate (r : Run) (i word value c e : ℕ) : Type 0 where
  pub process : IsOneOf r.shape.n i
  pub call : item r c ≡ Call i (Update word value)
  pub called : outcome r c ≡ Called
  pub first : 0 < c
  pub order : c ≤ e
  pub last : e ≤ length r.items
  pub goes_on : (t : ℕ) → c < t → t < e → IsDone r i t → ⊥
