-- What a turn at a desk does to the state of its seat: `Turned`, where the item is added to the history, and
-- `RefusedAs`, where it is not.
use Rattle.std.specs.Prelude.{◌≡◌, ℕ, ◌<◌, ◌≤◌, ◌++◌, List, [], ◌∷◌, length}
use Rattle.snap_words.specs.Shape.{max_items}
use mathlib.Core.List.{IsPrefix}
use Rattle.snap_semantics.specs.declared.process.Item.{Item}
use Rattle.snap_semantics.specs.declared.process.Outcome.{Outcome}
use Rattle.snap_record.specs.declared.fault.RecordFault.{RecordFault}
use Rattle.snap_record.specs.declared.fault.RecordFault.TheVariants.{Full, Memory}
use Rattle.snap_live.specs.Turns.{last_outcome}
use Rattle.snap_live.specs.SeatStates.{after_turn, after_full, after_refusal}
use Rattle.snap_live.specs.Rule.{Mine, OwnTurns}

-- the history that the seat found goes on by the item
pub record Turned (m : Mine) (item : Item) (number : ℕ) (outcome : Outcome) (n : Mine) : Type 0 where
  pub found : List Item
  pub more : IsPrefix m.0.seen found
  pub numbered : number ≡ length (found ++ item ∷ [])
  pub few : number ≤ max_items
  pub answered : outcome ≡ last_outcome m.0.base (found ++ item ∷ [])
  pub seat : n ≡ (after_turn m.0 found item outcome, [])
  pub turns : OwnTurns m.0.base n.0.seen n.0.owns

-- nothing was added: the seat has seen the full history; or it has seen nothing more, and no full history
abbrev pub RefusedAs : RecordFault → Mine → Mine → Type 0
RefusedAs Full m n =
    (found : List Item) × IsPrefix m.0.seen found × (length found ≡ max_items) × (n ≡ (after_full m.0 found, []))
    × OwnTurns m.0.base n.0.seen n.0.owns
RefusedAs Memory m n = (n ≡ (after_refusal m.0, [])) × (length n.0.seen < max_items)
