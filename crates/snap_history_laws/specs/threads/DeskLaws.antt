-- Desks: the seats of a closed one were told the turns of its record, and a note puts what its maker had ended before
-- what is called once it is met.
use Rattle.std.specs.Prelude.{◌≡◌, ℕ, ◌<◌, ◌≤◌, List, [], ◌∷◌, length, nat_eq, slice_index_or, Some, if◌then◌else◌}
use Rattle.std.specs.List.{All, Contains}
use mathlib.Core.List.{IsPrefix}
use Rattle.snap_words.specs.Shape.{IsOneOf, max_items}
use Rattle.snap_semantics.specs.declared.process.Item.{Item}
use Rattle.snap_semantics.specs.declared.process.Item.TheVariants.{Call}
use Rattle.snap_semantics.specs.declared.process.Op.{Op}
use Rattle.snap_semantics.specs.declared.process.Outcome.{Outcome}
use Rattle.snap_semantics.specs.declared.process.Outcome.TheVariants.{Called}
use Rattle.snap_runs.specs.Linearization.{IsLinearizable}
use Rattle.snap_runs.specs.Operation.{EndedBefore, Operation}
use Rattle.snap_runs.specs.Run.{IsValidRun, Run}
use Rattle.snap_live.specs.Closed.{HasSeat}
use Rattle.snap_live.specs.Shown.{DeskView, IsTurn, Keeps, SeatView, seat_of}
use Rattle.snap_live.specs.Turns.{setting_of, turns_of}
use Rattle.snap_live.specs.declared.seat_state.OwnTurn.{OwnTurn}
use Rattle.snap_live.specs.declared.seat_state.Setting.{Setting}
use Rattle.snap_history_laws.specs.threads.Told.{IsEnd, IsLinearizableAsTold, IsToldLinearization, Told, told_in}

-- A desk was closed with this record, and these seats were handed in: what is said of them where a desk is closed.
pub record IsClosed (base : Setting) (seats : List SeatView) (kept : Run) : Type 0 where
  pub of_base : setting_of kept ≡ base
  pub keeps : All (Keeps base kept.items) seats
  pub whole : (p : ℕ) → IsOneOf base.shape.n p → HasSeat p seats
  pub fits : IsValidRun kept
  pub short : length kept.items ≤ max_items

-- what was told to the seats: to each process the turns of its seat
abbrev pub told_at : List SeatView → Told
told_at [] p = []
told_at (s ∷ ss) p = if nat_eq p s.process then s.own else told_at ss p

-- The seats of a closed desk were told the turns of the record.
abbrev pub SeatsAreToldTheRecord : Type 0
SeatsAreToldTheRecord = (base : Setting) (seats : List SeatView) (kept : Run) → IsClosed base seats kept →
    (p : ℕ) → told_at seats p ≡ told_in kept p

-- What they were told is linearizable where the record is.
abbrev pub DesksTellLinearizations : Type 0
DesksTellLinearizations = (base : Setting) (seats : List SeatView) (kept : Run) → IsClosed base seats kept →
    IsLinearizable kept → IsLinearizableAsTold base.shape.w (told_at seats)

-- A seat's turns are those of its process in a history that it has seen: in all that it has seen, or in what it had
-- seen before it met notes.
abbrev pub OwnsWhatItSaw : SeatView → Type 0
OwnsWhatItSaw s = (items : List Item) × IsPrefix items s.seen × (s.own ≡ turns_of s.desk.base s.process items)

-- two seats have the same desk and process
abbrev pub IsSameSeat : SeatView → SeatView → Type 0
IsSameSeat before after = (after.desk ≡ before.desk) × (after.process ≡ before.process)

-- Seats own what they saw: a new seat, a seat after each turn, and a seat that has seen more since then.
pub record SeatsOwnWhatTheySaw : Type 0 where
  pub at_first : (desk : DeskView) (process : ℕ) → OwnsWhatItSaw (seat_of desk process)
  pub after_turn : (before after : SeatView) (x : Item) (number : ℕ) (outcome : Outcome) → IsSameSeat before after →
      IsTurn before after x number outcome → OwnsWhatItSaw after
  pub after_more : (before after : SeatView) → IsSameSeat before after → IsPrefix before.seen after.seen →
      after.own ≡ before.own → OwnsWhatItSaw before → OwnsWhatItSaw after

-- A seat met a note of another seat of its desk, and later called this.
pub record CallsAfterNote (noter before after : SeatView) (op : Op) (number : ℕ) : Type 0 where
  pub one_desk : noter.desk ≡ before.desk
  pub noted : OwnsWhatItSaw noter
  pub met : IsPrefix noter.seen before.seen
  pub called : IsTurn before after (Call before.process op) number Called

-- A seat was told of the end of this operation.
abbrev pub HasToldEnd : SeatView → Operation → Type 0
HasToldEnd s o = (t : OwnTurn) × Contains s.own t × (o.end ≡ Some t.number) × IsEnd t.outcome

-- One operation stands before another.
abbrev pub StandsBefore : List Operation → Operation → Operation → Type 0
StandsBefore os first second = (j k : ℕ) (d : Operation) → j < length os → k < length os →
    slice_index_or os j d ≡ first → slice_index_or os k d ≡ second → j < k

-- All that the noter had ended when it made the note stands before what is called once it is met, in each
-- linearization.
pub record IsOrderedByNote (first second : Operation) : Type 0 where
  pub ended : EndedBefore first second
  pub stands : (w : ℕ) (told : Told) (os : List Operation) → IsToldLinearization w told os →
      StandsBefore os first second

abbrev pub NotesOrderOperations : Type 0
NotesOrderOperations = (noter before after : SeatView) (op : Op) (first second : Operation) →
    CallsAfterNote noter before after op second.call → HasToldEnd noter first → IsOrderedByNote first second
