-- `NoTurn`: what a seat of a desk has seen after a turn that was refused, since memory ran out or the history is
-- full.
use Rattle.std.specs.Prelude.{◌≡◌, ◌<◌, length}
use Rattle.snap_words.specs.Shape.{max_items}
use mathlib.Core.List.{IsPrefix}
use Rattle.snap_semantics.specs.declared.fault.Fault.{Fault}
use Rattle.snap_semantics.specs.declared.fault.Fault.TheVariants.{Memory, Refused}
use Rattle.snap_semantics.specs.declared.refusal.LiveRefusal.{LiveRefusal}
use Rattle.snap_semantics.specs.declared.refusal.LiveRefusal.TheVariants.{Full}
use Rattle.snap_live.specs.Turns.{turns_of}
use Rattle.snap_live.specs.Shown.{SeatView}

-- the seat has seen the whole history, which is full, and has no turn more in it
pub record SeesAll (before after : SeatView) : Type 0 where
  pub more : IsPrefix before.seen after.seen
  pub full : length after.seen ≡ max_items
  pub own : after.own ≡ before.own
  pub turns : after.own ≡ turns_of before.desk.base before.process after.seen

-- nothing was added: memory ran out, and the seat has seen no more, and no full history; or the history is full
abbrev pub NoTurn : Fault LiveRefusal → SeatView → SeatView → Type 0
NoTurn Memory before after = (after.seen ≡ before.seen) × (after.own ≡ before.own) × (length after.seen < max_items)
NoTurn (Refused refusal) before after = (refusal ≡ Full max_items) × SeesAll before after
