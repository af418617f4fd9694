-- The rule of the desk's table, `TableInvariant`: tickets, processes, the slot of the record, what seats have seen;
-- and what each step tells its seat.
use Rattle.std.specs.Prelude.{◌≡◌, ℕ, ◌+◌, ◌*◌, ◌^◌, ◌<◌, ◌≤◌, List, [], ◌∷◌, length}
use Rattle.std.specs.Prelude.{true, false, Option, Some, ◌⊎◌}
use mathlib.Core.Option.{Option as Maybe, some}
use mathlib.Core.List.{IsPrefix}
use lib.ListN.{get_elem?}
use Rattle.atomic_table.specs.Table.{State, Me, Step}
use Rattle.snap_semantics.specs.declared.process.Item.{Item}
use Rattle.snap_live.specs.declared.seat_state.Setting.{Setting}
use Rattle.snap_semantics.specs.declared.process.Outcome.{Outcome}
use Rattle.snap_live.specs.declared.seat_state.SeatState.{SeatState}
use Rattle.snap_live.specs.declared.seat_state.Own.{Own}
use Rattle.snap_runs.specs.Run.{Run}
use Rattle.snap_live.specs.Turns.{run_of, turns_of}
use Rattle.snap_live.specs.SeatStates.{ticket_of, tickets_of, is_served, grip_of, waits, serves, rests, names}
use Rattle.snap_live.specs.SeatStates.{publishes, catches_up, tells}

-- f of each view, added up
abbrev pub total : (SeatState → ℕ) → List SeatState → ℕ
total f [] = 0
total f (v ∷ vs) = f v + total f vs

abbrev pub At : List SeatState → ℕ → SeatState → Type 0
At views i v = get_elem? views i ≡ some v

-- the tickets from `serving` on and below `next` are out, each with one seat
pub record Tickets (next serving : ℕ) (views : List SeatState) : Type 0 where
  pub apart : (i j : ℕ) (v w : SeatState) → At views i v → At views j w → (t : ℕ) → ticket_of v.stage ≡ Some t →
      ticket_of w.stage ≡ Some t → i ≡ j
  pub within : (i : ℕ) (v : SeatState) → At views i v → (t : ℕ) →
      ticket_of v.stage ≡ Some t → (serving ≤ t) × (t < next)
  pub served : (i : ℕ) (v : SeatState) → At views i v → is_served v.stage ≡ true → ticket_of v.stage ≡ Some serving
  pub waiting : total (λ v. tickets_of v.stage) views + serving ≡ next
  pub drawn : total (λ v. v.draws) views ≡ next
  pub holder : (i : ℕ) (v : SeatState) → At views i v → tickets_of v.stage ≤ length v.owns
  pub each_drawn : (i : ℕ) (v : SeatState) → At views i v → v.draws ≤ 2 ^ 32 * length v.owns

abbrev pub HasProcess : ℕ → List Own → Type 0
HasProcess p [] = ⊥
HasProcess p (o ∷ os) = (p ≡ o.process) ⊎ HasProcess p os

-- the processes differ and are counted, and the seat that may name one knows how many there are
pub record Processes (base : Setting) (count : ℕ) (views : List SeatState) : Type 0 where
  pub counted : total (λ v. length v.owns) views ≡ count
  pub few : count ≤ base.shape.n
  pub small : base.shape.n ≤ 2 ^ 16
  pub one_may_name : (i j : ℕ) (v w : SeatState) → At views i v → At views j w → v.may_name ≡ true →
      w.may_name ≡ true → i ≡ j
  pub knows : (i : ℕ) (v : SeatState) → At views i v → v.may_name ≡ true → v.named ≡ count
  pub named : (i : ℕ) (v : SeatState) → At views i v → (p : ℕ) → HasProcess p v.owns → (1 ≤ p) × (p ≤ count)
  pub differ : (i j : ℕ) (v w : SeatState) → At views i v → At views j w → (p : ℕ) →
      HasProcess p v.owns → HasProcess p w.owns → i ≡ j

-- the record is away only while a seat is served, and at home it holds the history
pub record Slot (base : Setting) (log : List Item) (home : Maybe (Option Run)) (views : List SeatState) : Type 0 where
  pub at_home : ((i : ℕ) (v : SeatState) → At views i v → is_served v.stage ≡ false) →
      home ≡ some (Some (run_of base log))
  pub grips : (i : ℕ) (v : SeatState) → At views i v → is_served v.stage ≡ true → grip_of v.stage ≡ log
  pub of_base : (i : ℕ) (v : SeatState) → At views i v → v.alive ≡ true → v.base ≡ base

-- each turns are those of their process in the history
abbrev pub OwnTurns : Setting → List Item → List Own → Type 0
OwnTurns base log [] = Unit {0}
OwnTurns base log (o ∷ os) = (o.turns ≡ turns_of base o.process log) × OwnTurns base log os

abbrev pub AllPrefix : List (List Item) → List Item → Type 0
AllPrefix [] xs = Unit {0}
AllPrefix (o ∷ os) xs = IsPrefix o xs × AllPrefix os xs

-- what is seen is a beginning of the history, the longest of them is all of it, and each seat's turns are its
-- processes' items
pub record Lists (base : Setting) (count : ℕ) (log : List Item) (views : List SeatState) : Type 0 where
  pub seen : (i : ℕ) (v : SeatState) → At views i v → IsPrefix v.seen log
  pub olds : (i : ℕ) (v : SeatState) → At views i v → AllPrefix v.olds v.seen
  pub owned : (i : ℕ) (v : SeatState) → At views i v → OwnTurns base log v.owns
  pub strangers : (p : ℕ) → count < p → turns_of base p log ≡ []
  pub longest : (i : ℕ) × (v : SeatState) × At views i v × (v.seen ≡ log)

pub record TableInvariant (base : Setting) (s : State (Option Run) SeatState) : Type 0 where
  pub log : List Item
  pub next : ℕ
  pub serving : ℕ
  pub count : ℕ
  pub home : Maybe (Option Run)
  pub words : s.words ≡ length log ∷ next ∷ serving ∷ count ∷ []
  pub homes : s.homes ≡ home ∷ []
  pub tickets : Tickets next serving s.views
  pub processes : Processes base count s.views
  pub slot : Slot base log home s.views
  pub lists : Lists base count log s.views

abbrev pub Mine : Type 0
Mine = Me (Option Run) SeatState

-- the seat has the record with these items
abbrev pub Holds : Mine → SeatState → List Item → Mine → Type 0
Holds m v items n = n ≡ (v, (0, Some (run_of m.0.base items)) ∷ [])

abbrev pub NamedProcess : Step (Option Run) → Mine → ℕ → Mine → Type 0
NamedProcess st m r n = n ≡ (names m.0 (m.0.named + 1), m.1)

abbrev pub Drew : Step (Option Run) → Mine → ℕ → Mine → Type 0
Drew st m r n = n ≡ (waits m.0 r, m.1)

-- the seat is served where the number found is its ticket
abbrev pub Looked : Step (Option Run) → Mine → ℕ → Mine → Type 0
Looked st m r n =
    (ticket_of m.0.stage ≡ Some r →
    (items : List Item) × IsPrefix m.0.seen items × Holds m (serves m.0 r items) items n)
    × ((ticket_of m.0.stage ≡ Some r → ⊥) → n ≡ m)

-- the history goes on by the item, and the seat's turns are those of its process in it
abbrev pub Published : Item → Outcome → Step (Option Run) → Mine → ℕ → Mine → Type 0
Published x o st m r n = (n ≡ (publishes m.0 x o, m.1)) × OwnTurns m.0.base n.0.seen n.0.owns

abbrev pub CaughtUp : Step (Option Run) → Mine → ℕ → Mine → Type 0
CaughtUp st m r n = (n ≡ (catches_up m.0, m.1)) × OwnTurns m.0.base n.0.seen n.0.owns

abbrev pub ServedOut : Step (Option Run) → Mine → ℕ → Mine → Type 0
ServedOut st m r n = n ≡ (rests m.0, [])

-- each of the lists that were seen before begins what is seen now
abbrev pub Told : Step (Option Run) → Mine → ℕ → Mine → Type 0
Told st m r n = (n ≡ (tells m.0, m.1)) × AllPrefix m.0.olds m.0.seen

-- the slot is out with the seat, which has the record of the history that it knows
abbrev pub HasAll : Mine → Type 0
HasAll m = m ≡ (m.0, (0, Some (run_of m.0.base (grip_of m.0.stage))) ∷ [])

-- the seat is served, and has the record
abbrev pub Taken : ℕ → Mine → Mine → Type 0
Taken t m n = (n.0 ≡ serves m.0 t (grip_of n.0.stage)) × HasAll n × IsPrefix m.0.seen (grip_of n.0.stage)
