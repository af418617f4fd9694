-- `Recording`, the recorded first items of a debugger's run; `IsCheckpoint`, the machine at a position of it; and
-- `IsReversible`, a machine that can go back to an earlier position.
use Rattle.std.specs.Prelude.{◌≡◌, ◌≤◌, ℕ, ◌+◌, ◌-◌, List, [], ◌∷◌, ◌++◌, drop, length, ⊤}
use Rattle.snap_words.specs.Shape.{max_items}
use Rattle.snap_semantics.specs.declared.process.Item.{Item}
use Rattle.snap_machine.specs.Configuration.{Configuration}
use Rattle.snap_runs.specs.Run.{Run, IsValidRun, state, outcome}
use Rattle.snap_machine.specs.Undo.{CanPut, put}
use Rattle.snap_debug.specs.declared.reversible_machine.DoneItem.{DoneItem}
use Rattle.snap_debug.specs.declared.reversible_machine.ReversibleMachine.{ReversibleMachine}
use Rattle.snap_debug.specs.declared.checkpoint.Checkpoint.{Checkpoint}

-- a run, and how many of its first items are recorded
pub record Recording : Type 0 where
  pub run : Run
  pub reached : ℕ

-- the machine at position t of a run
abbrev pub configuration : Run → ℕ → Configuration
configuration r t = record { source = r.source; shape = r.shape; state = state r t }

-- a machine is the one at its position of a run
pub record IsCheckpoint {K W : Type 0} (r : Run) (s : Checkpoint K W) : Type 0 where
  pub within : s.position ≤ length r.items
  pub machine : s.machine ≡ configuration r s.position

-- the items that are recorded and those to come make up a run
pub record ContinuesWith (r recorded : Run) (xs : List Item) : Type 0 where
  pub fits : IsValidRun r
  pub few : length r.items ≤ max_items
  pub source : recorded.source ≡ r.source
  pub shape : recorded.shape ≡ r.shape
  pub items : r.items ≡ recorded.items ++ xs

-- what is recorded are the first items of a run
abbrev pub IsRecorded : Run → Run → Type 0
IsRecorded r recorded = ContinuesWith r recorded (drop (length recorded.items) r.items)

-- the item behind position t of a run, done: what came of it, and what puts the state before it back
pub record Undoes {K W : Type 0} (r : Run) (t : ℕ) (d : DoneItem K W) : Type 0 where
  pub outcome : d.outcome ≡ outcome r (t + 1)
  pub fits : CanPut r.source r.shape d.undo
  pub back : put r.source d.undo (state r (t + 1)) ≡ state r t

-- each of the items from there on is undone by what it overwrote
abbrev pub AllUndo : {K W : Type 0} → Run → ℕ → List (DoneItem K W) → Type 0
AllUndo r t [] = ⊤
AllUndo r t (d ∷ ds) = Undoes r t d × AllUndo r (t + 1) ds

-- the position to which a machine can go back
abbrev pub start : {K W : Type 0} → ReversibleMachine K W → ℕ
start p = p.current.position - length p.done.items

-- a machine can go from its position back to its start
pub record IsReversible {K W : Type 0} (r : Run) (p : ReversibleMachine K W) : Type 0 where
  pub stands : IsCheckpoint r p.current
  pub within : length p.done.items ≤ p.current.position
  pub undone : AllUndo r (start p) p.done.items
