-- What the worker of one process keeps as it plays its script in a live run, and why it stops (`Stopped`). What its
-- gate may answer to a process at a turn is `may`.
use Rattle.std.specs.Prelude.{◌≡◌, ℕ, ◌+◌, ◌<◌, ◌≤◌, ◌⊎◌, List, [], ◌∷◌, ◌++◌, length, map, Bool, true, false, Option}
use Rattle.std.specs.Prelude.{Some, None, Vec, vec_capacity}
use Rattle.std.specs.Global.{Global}
use Rattle.snap_words.specs.Shape.{IsOneOf, max_items}
use Rattle.snap_semantics.specs.declared.process.Item.{Item}
use Rattle.snap_semantics.specs.declared.process.Op.{Op}
use Rattle.snap_semantics.specs.declared.process.Outcome.{Outcome}
use Rattle.snap_live.specs.declared.seat_state.OwnTurn.{OwnTurn}
use Rattle.snap_live.specs.declared.seat.Turn.{Turn}
use Rattle.snap_live.specs.declared.worker.Sequel.{Sequel}
use Rattle.snap_live.specs.declared.worker.Stop.{Stop}
use Rattle.snap_live.specs.declared.worker.Stop.TheVariants.{TurnLimit, Full, Memory}
use Rattle.snap_live.specs.Turns.{turns_of, own_turn}
use Rattle.snap_live.specs.Shown.{DeskView, SeatView}
use Rattle.snap_sched.specs.ScriptText.{Script}
use Rattle.snap_live.specs.Play.{Due, rest, over, IsPlay, IsBegun}
use Rattle.snap_live.specs.Sequels.{sequel_of}

-- a turn as its caller is told of it
abbrev pub shown : OwnTurn → Turn
shown t = record { number = t.number; outcome = t.outcome }

-- nothing is there yet, and there is room for so many
abbrev pub HasRoom : {A : Type 0} → (count : ℕ) → Vec A Global → Type 0
HasRoom count v = (v.items ≡ []) × (count ≤ vec_capacity v)

-- the gate may let the process on to each of its first turns, so many
abbrev pub IsLetOn : (may : ℕ → ℕ → Bool → Type 0) → (process made : ℕ) → Type 0
IsLetOn may process made = (turn : ℕ) → IsOneOf made turn → may process turn true

-- the process has made fewer turns than it may, and the gate may let it on to the next
pub record MayGoOn (may : ℕ → ℕ → Bool → Type 0) (process made limit : ℕ) : Type 0 where
  pub fewer : made < limit
  pub let_on : may process (made + 1) true

-- the process has made fewer turns than it may, and the gate may refuse it the next
pub record MayBeRefused (may : ℕ → ℕ → Bool → Type 0) (process made limit : ℕ) : Type 0 where
  pub fewer : made < limit
  pub refused : may process (made + 1) false

-- the process has made all turns that it may, or the gate may refuse it the next
abbrev pub MayNotGoOn : (may : ℕ → ℕ → Bool → Type 0) → (process made limit : ℕ) → Type 0
MayNotGoOn may process made limit = (made ≡ limit) ⊎ MayBeRefused may process made limit

-- the seat of this process at this desk, whose turns were told, at most so many, each after the gate
pub record Kept (may : ℕ → ℕ → Bool → Type 0) (desk : DeskView) (process limit : ℕ) (seat : SeatView)
    (turns : List Turn) : Type 0 where
  pub at_desk : seat.desk ≡ desk
  pub of_process : seat.process ≡ process
  pub few : length seat.own ≤ limit
  pub short : length seat.seen ≤ max_items
  pub let_on : IsLetOn may process (length seat.own)
  pub found : seat.own ≡ turns_of desk.base process seat.seen
  pub told : turns ≡ map shown seat.own

-- the turn was made, and reads so
pub record Made (before after : SeatView) (item : Item) (sequel : Sequel) : Type 0 where
  pub number : ℕ
  pub outcome : Outcome
  pub own : after.own ≡ before.own ++ own_turn number item outcome ∷ []
  pub reads : sequel ≡ sequel_of outcome
  pub asked : after.asked ≡ before.asked + 1

-- why the worker made no further turn; memory runs out only where its seat has not seen a full history
abbrev pub NoFurther : (may : ℕ → ℕ → Bool → Type 0) → ℕ → SeatView → Stop → Type 0
NoFurther may limit seat TurnLimit = MayNotGoOn may seat.process (length seat.own) limit
NoFurther may limit seat Full = (length seat.seen ≡ max_items) × MayGoOn may seat.process (length seat.own) limit
NoFurther may limit seat Memory = (length seat.seen < max_items) × MayGoOn may seat.process (length seat.own) limit

-- the worker stopped before the end of its script: a turn was due, and this is why it was not made
pub record Stopped (may : ℕ → ℕ → Bool → Type 0) (script : Script) (limit : ℕ)
    (seat : SeatView) (stop : Stop) : Type 0 where
  pub begun : IsBegun script seat.own
  pub why : NoFurther may limit seat stop

-- what is due behind an operation, where nothing follows and where the others do
abbrev pub after_operation : Bool → List Op → Due
after_operation true os = over
after_operation false os = rest os

-- the end of the script, or why it was not reached
abbrev pub Ended : (may : ℕ → ℕ → Bool → Type 0) → Script → ℕ → SeatView → Option Stop → Type 0
Ended may script limit seat None = IsPlay script seat.own
Ended may script limit seat (Some stop) = Stopped may script limit seat stop

-- what a worker hands back
pub record WorkedView : Type 0 where
  pub seat : SeatView
  pub turns : List Turn
  pub stop : Option Stop

pub record IsWorked (may : ℕ → ℕ → Bool → Type 0) (desk : DeskView) (process : ℕ) (script : Script) (limit : ℕ)
    (w : WorkedView) : Type 0 where
  pub kept : Kept may desk process limit w.seat w.turns
  pub ended : Ended may script limit w.seat w.stop
