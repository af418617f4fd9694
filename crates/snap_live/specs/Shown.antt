-- `DeskView`, `SeatView` and `NoteView`: a desk, a seat and a note as contracts see them; and `IsTurn`, what a turn
-- does to its seat.
use Rattle.std.specs.Prelude.{◌≡◌, ℕ, zero, suc, ◌≤◌, ◌++◌, List, [], ◌∷◌, length}
use Rattle.snap_words.specs.Shape.{max_items}
use mathlib.Core.List.{IsPrefix}
use Rattle.atomic_table.specs.Seated.{TableId}
use Rattle.snap_semantics.specs.declared.process.Item.{Item}
use Rattle.snap_live.specs.declared.seat_state.Setting.{Setting}
use Rattle.snap_semantics.specs.declared.process.Outcome.{Outcome}
use Rattle.snap_live.specs.declared.seat_state.OwnTurn.{OwnTurn}
use Rattle.snap_live.specs.Turns.{last_outcome, turns_of, own_turn}

-- which desk, and where its record began
pub record DeskView : Type 0 where
  pub id : TableId
  pub base : Setting

pub record SeatView : Type 0 where
  pub desk : DeskView
  pub process : ℕ
  pub asked : ℕ
  pub seen : List Item
  pub own : List OwnTurn

pub record NoteView : Type 0 where
  pub desk : DeskView
  pub seen : List Item

-- after a turn the seat has seen a history that begins with what it had seen and ends with the item, whose outcome is
-- that of the run. The process's items in it are the seat's turns, each once and in order.
pub record IsTurn (before after : SeatView) (item : Item) (number : ℕ) (outcome : Outcome) : Type 0 where
  pub more : IsPrefix before.seen after.seen
  pub last : (h : List Item) × (after.seen ≡ h ++ item ∷ [])
  pub numbered : number ≡ length after.seen
  pub few : number ≤ max_items
  pub answered : outcome ≡ last_outcome before.desk.base after.seen
  pub own : after.own ≡ before.own ++ own_turn number item outcome ∷ []
  pub turns : after.own ≡ turns_of before.desk.base before.process after.seen

-- a new seat
abbrev pub seat_of : DeskView → ℕ → SeatView
seat_of d p = record { desk = d; process = p; asked = 0; seen = []; own = [] }

-- the new seats of so many processes, in order
abbrev pub seats_of : DeskView → ℕ → List SeatView
seats_of d zero = []
seats_of d (suc n) = seats_of d n ++ seat_of d (suc n) ∷ []

-- what a record has to do with a seat: it begins with what the seat has seen, and its items of the seat's process are
-- the seat's turns
abbrev pub Keeps : Setting → List Item → SeatView → Type 0
Keeps base items s = IsPrefix s.seen items × (turns_of base s.process items ≡ s.own)

-- the desk and the process stay, and the number of tickets drawn grows
abbrev pub StaysWith : SeatView → SeatView → ℕ → Type 0
StaysWith before after drawn = (after.desk ≡ before.desk) × (after.process ≡ before.process) × (after.asked ≡ drawn)
