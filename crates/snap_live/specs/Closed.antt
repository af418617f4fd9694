-- The seats with which a desk is closed: each process has one (`HasSeat`), or the refusal names the least that has
-- none (`NamesMissing`).
use Rattle.std.specs.Prelude.{◌≡◌, ℕ, ◌<◌, ◌≤◌, ◌⊎◌, List, [], ◌∷◌}
use mathlib.Core.List.{IsPrefix}
use Rattle.snap_semantics.specs.declared.process.Item.{Item}
use Rattle.snap_live.specs.declared.seat_state.Own.{Own}
use Rattle.snap_live.specs.declared.seat_state.OwnTurn.{OwnTurn}
use Rattle.snap_words.specs.Shape.{IsOneOf}
use Rattle.snap_semantics.specs.declared.fault.Fault.{Fault}
use Rattle.snap_semantics.specs.declared.fault.Fault.TheVariants.{Memory, Refused}
use Rattle.snap_semantics.specs.declared.refusal.LiveRefusal.{LiveRefusal}
use Rattle.snap_semantics.specs.declared.refusal.LiveRefusal.TheVariants.{Full, TurnLimit, SeatMissing}
use Rattle.snap_live.specs.Shown.{SeatView}

-- one of the seats is of this process
abbrev pub HasSeat : ℕ → List SeatView → Type 0
HasSeat p [] = ⊥
HasSeat p (s ∷ ss) = (p ≡ s.process) ⊎ HasSeat p ss

pub record IsLeastMissing (p count : ℕ) (ss : List SeatView) : Type 0 where
  pub one : IsOneOf count p
  pub missing : ¬ HasSeat p ss
  pub least : (q : ℕ) → 1 ≤ q → q < p → HasSeat q ss

-- the refusal names the least process that has no seat
abbrev pub NamesMissing : Fault LiveRefusal → ℕ → List SeatView → Type 0
NamesMissing Memory count ss = ⊥
NamesMissing (Refused (Full n)) count ss = ⊥
NamesMissing (Refused (TurnLimit p)) count ss = ⊥
NamesMissing (Refused (SeatMissing p)) count ss = IsLeastMissing p count ss

-- the turns of the process
abbrev pub HasTurns : ℕ → List OwnTurn → List Own → Type 0
HasTurns p ts [] = ⊥
HasTurns p ts (o ∷ os) = ((p ≡ o.process) × (ts ≡ o.turns)) ⊎ HasTurns p ts os

-- the seat was taken in by one that has seen this and has these turns
abbrev pub IsIn : List Item → List Own → SeatView → Type 0
IsIn seen owns s = IsPrefix s.seen seen × HasTurns s.process s.own owns
