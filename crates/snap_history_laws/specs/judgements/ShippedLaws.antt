-- The histories of the runs of U, B and M are linearizable, and nothing else is judged of them.
use Rattle.std.specs.Prelude.{◌≡◌, ℕ, ◌≤◌, Bool, true, List, length}
use Rattle.snap_words.specs.Kind.{fits}
use Rattle.snap_words.specs.Shape.{Counts, IsShape, max_items}
use Rattle.snap_words.specs.declared.kind.KindTag.{KindTag}
use Rattle.snap_semantics.specs.declared.process.Item.{Item}
use Rattle.snap_sched.specs.ScriptText.{Script}
use Rattle.snap_runs.specs.Run.{IsValidRun, Run, run_of_items}
use Rattle.snap_shipped.specs.Kept.{NumbersSuffice}
use Rattle.snap_shipped.specs.Shipped.{shipped}
use Rattle.snap_live.specs.Shown.{SeatView}
use Rattle.snap_live.specs.declared.seat.Turn.{Turn}
use Rattle.snap_live.specs.LiveRun.{IsLive}
use Rattle.snap_history_laws.specs.threads.DeskLaws.{IsClosed}
use Rattle.snap_history_laws.specs.threads.ShippedLaws.{IsShapeFor, shipped_over}
use Rattle.snap_judge.specs.History.{IsHistory}
use Rattle.snap_judge.specs.Judgement.{FailsAt}
use Rattle.snap_judge.specs.Linearizable.{IsLinearizableHistory}
use Rattle.snap_run_judge.specs.RunHistory.{history_of}

-- The history of a run fails at no event, so that no judgement, whatever the bound of its search, says that it does.
abbrev pub IsNeverAccused : Run → Type 0
IsNeverAccused r = (k : ℕ) → FailsAt (history_of r) k → ⊥

-- A run that its callers see as linearizable.
pub record IsSeenLinearizable (r : Run) : Type 0 where
  pub history : IsHistory (history_of r)
  pub linearizable : IsLinearizableHistory (history_of r)
  pub never_accused : IsNeverAccused r

-- Each run of the listing that is shipped for this kind is one.
abbrev pub ShippedRunsAreSeenLinearizable : KindTag → Type 0
ShippedRunsAreSeenLinearizable g =
    (s : Counts) (items : List Item) → IsShape s.n s.w → fits (shipped g).kind s ≡ true → NumbersSuffice g items →
    (let r = run_of_items (shipped g) s items in
    IsValidRun r → IsSeenLinearizable r)

-- What is kept of the turns of threads at a desk of a shipped listing, once the desk is closed, is seen linearizable.
abbrev pub ClosedDesksAreSeenLinearizable : Type 0
ClosedDesksAreSeenLinearizable = (g : KindTag) (shape : Counts) (seats : List SeatView) (kept : Run) →
    IsShapeFor g shape → IsClosed (shipped_over g shape) seats kept → IsSeenLinearizable kept

-- What is kept of a live run of a shipped listing, where the gate of the run may answer `may`, is seen linearizable.
abbrev pub LiveRunsAreSeenLinearizable : (may : ℕ → ℕ → Bool → Type 0) → Type 0
LiveRunsAreSeenLinearizable may = (g : KindTag) (shape : Counts) (scripts : List Script) (limit : ℕ) (kept : Run)
    (turns : List (List Turn)) → IsShapeFor g shape →
    IsLive may (shipped_over g shape) scripts limit kept turns → IsValidRun kept → length kept.items ≤ max_items →
    IsSeenLinearizable kept
