-- What threads are told of runs of U, B and M, at a desk that was closed and by a live run, is linearizable.
use Rattle.std.specs.Prelude.{◌≡◌, ℕ, ◌+◌, ◌<◌, ◌≤◌, Bool, List, [], length, map, true}
use Rattle.std.specs.List.{All, Contains}
use Rattle.snap_words.specs.Kind.{fits}
use Rattle.snap_words.specs.Shape.{Counts, IsOneOf, IsShape, max_items}
use Rattle.snap_words.specs.declared.kind.KindTag.{KindTag}
use Rattle.snap_semantics.specs.Table.{who}
use Rattle.snap_sched.specs.ScriptText.{Script}
use Rattle.snap_runs.specs.Operation.{Operation}
use Rattle.snap_runs.specs.Run.{IsValidRun, Run}
use Rattle.snap_shipped.specs.Shipped.{shipped}
use Rattle.snap_live.specs.Shown.{SeatView}
use Rattle.snap_live.specs.declared.seat.Turn.{Turn}
use Rattle.snap_live.specs.declared.seat_state.OwnTurn.{OwnTurn}
use Rattle.snap_live.specs.declared.seat_state.Setting.{Setting}
use Rattle.snap_live.specs.LiveRun.{IsLive, turns_at}
use Rattle.snap_live.specs.Play.{IsPlay}
use Rattle.snap_live.specs.Script.{script_at}
use Rattle.snap_live.specs.Worker.{shown}
use Rattle.snap_history_laws.specs.threads.DeskLaws.{IsClosed, told_at}
use Rattle.snap_history_laws.specs.threads.Told.{IsLinearizableAsTold, IsToldLinearization, Told, told_in}

-- the listing that is shipped for a kind, over a shape
abbrev pub shipped_over : KindTag → Counts → Setting
shipped_over g shape = record { source = shipped g; shape = shape }

-- a shape that fits this listing
abbrev pub IsShapeFor : KindTag → Counts → Type 0
IsShapeFor g shape = IsShape shape.n shape.w × (fits (shipped g).kind shape ≡ true)

-- What the seats of a desk of a shipped listing were told, which was closed, is linearizable.
abbrev pub ClosedDesksAreLinearizable : Type 0
ClosedDesksAreLinearizable = (g : KindTag) (shape : Counts) (seats : List SeatView) (kept : Run) → IsShapeFor g shape →
    IsClosed (shipped_over g shape) seats kept → IsLinearizableAsTold shape.w (told_at seats)

-- What the threads of a live run were told: to each process the turns that are handed back for it, which are a play of
-- its script, and all its own; and to nobody else anything.
pub record IsToldLive (base : Setting) (scripts : List Script) (turns : List (List Turn)) (told : Told) : Type 0 where
  pub handed : (k : ℕ) → k < base.shape.n → turns_at turns k ≡ map shown (told (k + 1))
  pub plays : (k : ℕ) → k < base.shape.n → IsPlay (script_at scripts k) (told (k + 1))
  pub own : (p : ℕ) (t : OwnTurn) → Contains (told p) t → who t.item ≡ p
  pub nobody_else : (p : ℕ) → ¬ IsOneOf base.shape.n p → told p ≡ []

-- In each linearization of what is told every operation is of a process that is there.
abbrev pub NobodyIsInvented : (n w : ℕ) → Told → Type 0
NobodyIsInvented n w told =
    (os : List Operation) → IsToldLinearization w told os → All (λ o. IsOneOf n o.process) os

-- What was told in a live run is known from its scripts and from the turns that are handed back: it is what its record
-- has. It is linearizable, by the operations of its processes alone.
pub record TellsLinearizations (base : Setting) (scripts : List Script) (turns : List (List Turn))
    (kept : Run) : Type 0 where
  pub told : IsToldLive base scripts turns (told_in kept)
  pub no_other : (told : Told) → IsToldLive base scripts turns told → told ≡ told_in kept
  pub linearizable : IsLinearizableAsTold base.shape.w (told_in kept)
  pub nobody_invented : NobodyIsInvented base.shape.n base.shape.w (told_in kept)

-- What the threads of a live run of a shipped listing are told is linearizable, where the gate of the run may answer
-- `may`.
abbrev pub LiveRunsAreLinearizable : (may : ℕ → ℕ → Bool → Type 0) → Type 0
LiveRunsAreLinearizable may = (g : KindTag) (shape : Counts) (scripts : List Script) (limit : ℕ) (kept : Run)
    (turns : List (List Turn)) → IsShapeFor g shape →
    IsLive may (shipped_over g shape) scripts limit kept turns → IsValidRun kept → length kept.items ≤ max_items →
    TellsLinearizations (shipped_over g shape) scripts turns kept
