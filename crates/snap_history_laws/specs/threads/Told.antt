-- What threads are told. A thread makes the turns of one process, and of each it is told the number and what came of
-- it. From that alone it knows its operations, and here it is said what it means that these are linearizable.
use Rattle.std.specs.Prelude.{◌≡◌, ℕ, ◌<◌, List, replicate, Option, Some, None}
use Rattle.std.specs.List.{All, AllPairs, Contains}
use Rattle.snap_semantics.specs.declared.process.Item.{Item}
use Rattle.snap_semantics.specs.declared.process.Item.TheVariants.{Call}
use Rattle.snap_semantics.specs.declared.process.Op.{Op}
use Rattle.snap_semantics.specs.declared.process.Op.TheVariants.{Scan, Update}
use Rattle.snap_semantics.specs.declared.process.Outcome.{Outcome}
use Rattle.snap_semantics.specs.declared.process.Outcome.TheVariants.{Answered, Called, Finished}
use Rattle.snap_runs.specs.Linearization.{KeepsOrder, RunsFrom}
use Rattle.snap_runs.specs.Operation.{Action, HasEnded, Operation, Sees, Sets}
use Rattle.snap_runs.specs.Run.{Run}
use Rattle.snap_live.specs.Turns.{own_turn, setting_of, turns_of}
use Rattle.snap_live.specs.declared.seat_state.OwnTurn.{OwnTurn}

-- what was told to the thread of each process: its turns, each with its number, its item and what came of it
abbrev pub Told : Type 0
Told = ℕ → List OwnTurn

-- the turns that a run has of each process
abbrev pub told_in : Run → Told
told_in r p = turns_of (setting_of r) p r.items

-- The thread of process i was told the number c of its call of an operation.
abbrev pub IsToldCall : List OwnTurn → (i c : ℕ) → Op → Type 0
IsToldCall turns i c op = Contains turns (own_turn c (Call i op) Called)

-- A thread was told the number t of a turn with this outcome.
abbrev pub IsToldOutcome : List OwnTurn → (t : ℕ) → Outcome → Type 0
IsToldOutcome turns t outcome = (x : Item) × Contains turns (own_turn t x outcome)

-- A scan ends with an answer, and an update when it is finished.
abbrev pub IsEnd : Outcome → Type 0
IsEnd (Answered view) = Unit {0}
IsEnd Finished = Unit {0}
IsEnd _ = ⊥

-- A thread was told of no end of an operation behind the number c; or of none before the number e.
abbrev pub NoEndBehind : List OwnTurn → (c : ℕ) → Type 0
NoEndBehind turns c = (t : ℕ) (outcome : Outcome) → c < t → IsToldOutcome turns t outcome → IsEnd outcome → ⊥

abbrev pub NoEndBetween : List OwnTurn → (c e : ℕ) → Type 0
NoEndBetween turns c e = (t : ℕ) (outcome : Outcome) → c < t → t < e →
    IsToldOutcome turns t outcome → IsEnd outcome → ⊥

-- The thread of process i was told the number c of a call, and the number e of the next end behind it; or of no end
-- so far.
abbrev pub WasTold : List OwnTurn → (i c : ℕ) → Option ℕ → Action → Type 0
WasTold turns i c (Some e) (Sets word value) =
    IsToldCall turns i c (Update word value) × (c < e) × IsToldOutcome turns e Finished × NoEndBetween turns c e
WasTold turns i c None (Sets word value) = IsToldCall turns i c (Update word value) × NoEndBehind turns c
WasTold turns i c (Some e) (Sees view) =
    IsToldCall turns i c Scan × (c < e) × IsToldOutcome turns e (Answered view) × NoEndBetween turns c e
-- a scan of which no answer was told has seen no view
WasTold turns i c None (Sees view) = ⊥

-- An operation of which its thread was told.
abbrev pub IsToldOperation : Told → Operation → Type 0
IsToldOperation told o = WasTold (told o.process) o.process o.call o.end o.action

-- A list of the operations of which threads were told, in an order in which they could have taken place one after
-- another.
pub record IsToldLinearization (w : ℕ) (told : Told) (os : List Operation) : Type 0 where
  -- each is an operation of which its thread was told, and no two have the same number told for their calls
  pub took_place : All (IsToldOperation told) os
  pub once : AllPairs (λ a b. a.call ≡ b.call → ⊥) os
  -- every operation of whose end a thread was told is there
  pub complete : (o : Operation) → IsToldOperation told o → HasEnded o → Contains os o
  -- one whose end was told the number a stands before one whose call was told the number b, where a < b
  pub order : KeepsOrder os
  -- the object runs them, from w zeros on, with the answers that were told
  pub runs : RunsFrom (replicate w 0) os

-- What the threads are told has a linearization.
abbrev pub IsLinearizableAsTold : ℕ → Told → Type 0
IsLinearizableAsTold w told = (os : List Operation) × IsToldLinearization w told os
