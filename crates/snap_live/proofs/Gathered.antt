-- What one seat of a desk knows once other seats are joined into it: all that each of them had seen, and their turns.
use Rattle.std.proofs.Common.{◌≡◌, ℕ, zero, suc, ◌+◌, ◌<◌, ◌≤◌, arith, List, [], ◌∷◌, ◌++◌, length, sym, inl, inr}
use Rattle.std.proofs.Common.{get_or}
use Rattle.std.specs.Prelude.{All}
use Rattle.std.proofs.lemmas.Bool.{cases_eq}
use Rattle.std.proofs.lemmas.List.Elements.{All-head, All-tail}
use mathlib.Core.List.{IsPrefix}
use Rattle.snap_semantics.specs.declared.process.Item.{Item}
use Rattle.snap_live.specs.declared.seat_state.Setting.{Setting}
use Rattle.snap_live.specs.declared.seat_state.Own.{Own}
use Rattle.snap_live.specs.declared.seat_state.OwnTurn.{OwnTurn}
use Rattle.snap_live.specs.Turns.{turns_of}
use Rattle.snap_live.specs.Rule.{HasProcess, OwnTurns}
use Rattle.snap_live.specs.Shown.{SeatView, Keeps}
use Rattle.snap_live.specs.Closed.{HasSeat, HasTurns, IsIn}
use Rattle.snap_live.proofs.Runs.{prefix_chain}

turns_left : (p : ℕ) (ts : List OwnTurn) (xs ys : List Own) → HasTurns p ts xs → HasTurns p ts (xs ++ ys)
turns_left p ts [] ys h = absurd h
turns_left p ts (x ∷ xs) ys (inl here) = inl here
turns_left p ts (x ∷ xs) ys (inr more) = inr (turns_left p ts xs ys more)

-- each turns that it has are those of their process in the record
turns_found : (base : Setting) (items : List Item) (p : ℕ) (ts : List OwnTurn) (os : List Own) → HasTurns p ts os →
    OwnTurns base items os → turns_of base p items ≡ ts
turns_found base items p ts [] h all = absurd h
turns_found base items p ts (o ∷ os) (inl here) all = rw (here.0, here.1) (sym all.0)
turns_found base items p ts (o ∷ os) (inr more) all = turns_found base items p ts os more all.1

pub keeps_each : (base : Setting) (items seen : List Item) (os : List Own) (s : SeatView) → IsPrefix seen items →
    OwnTurns base items os → IsIn seen os s → Keeps base items s
keeps_each base items seen os s p all h =
    (prefix_chain s.seen seen items h.0 p, turns_found base items s.process s.own os h.1 all)

-- whose turns it has, that process it has
has_process : (p : ℕ) (ts : List OwnTurn) (os : List Own) → HasTurns p ts os → HasProcess p os
has_process p ts [] h = absurd h
has_process p ts (o ∷ os) (inl here) = inl here.0
has_process p ts (o ∷ os) (inr more) = inr (has_process p ts os more)

-- who has a seat has its turns taken in
pub process_in : (p : ℕ) (seen : List Item) (owns : List Own) (ss : List SeatView) → HasSeat p ss →
    All (IsIn seen owns) ss → HasProcess p owns
process_in p seen owns [] h all = absurd h
process_in p seen owns (s ∷ ss) (inl same) all =
    rw same (has_process s.process s.own owns (All-head (IsIn seen owns) s ss all).1)
process_in p seen owns (s ∷ ss) (inr more) all = process_in p seen owns ss more (All-tail (IsIn seen owns) s ss all)

pub has_at : (p k : ℕ) (ss : List SeatView) (d : SeatView) → k < length ss → (get_or ss k d).process ≡ p → HasSeat p ss
has_at p k [] d lt e = absurd (omega arith)
has_at p zero (s ∷ ss) d lt e = inl (sym e)
has_at p (suc k) (s ∷ ss) d lt e = inr (has_at p k ss d (omega arith) e)

pub up_to : (n : ℕ) (P : ℕ → Type 0) → ((p : ℕ) → 1 ≤ p → p ≤ n → P p) → P (n + 1) → (p : ℕ) → 1 ≤ p → p ≤ n + 1 → P p
up_to n P below here p one le =
    elim (cases_eq p (n + 1)) [
      | inl same ↦ rw same here
      | inr other ↦ below p one (omega arith)
    ]

turns_right : (p : ℕ) (ts : List OwnTurn) (xs ys : List Own) → HasTurns p ts ys → HasTurns p ts (xs ++ ys)
turns_right p ts [] ys h = h
turns_right p ts (x ∷ xs) ys h = inr (turns_right p ts xs ys h)

pub in_left : (seen seen' : List Item) (xs ys zs : List Own) (s : SeatView) → zs ≡ xs ++ ys → IsPrefix seen seen' →
    IsIn seen xs s → IsIn seen' zs s
in_left seen seen' xs ys zs s e p h =
    (prefix_chain s.seen seen seen' h.0 p, rw e (turns_left s.process s.own xs ys h.1))

pub in_right : (seen seen' : List Item) (xs ys zs : List Own) (s : SeatView) → zs ≡ xs ++ ys → IsPrefix seen seen' →
    IsIn seen ys s → IsIn seen' zs s
in_right seen seen' xs ys zs s e p h =
    (prefix_chain s.seen seen seen' h.0 p, rw e (turns_right s.process s.own xs ys h.1))

pub all_keep : (base : Setting) (items seen : List Item) (os : List Own) (ss : List SeatView) → IsPrefix seen items →
    OwnTurns base items os → All (IsIn seen os) ss → All (Keeps base items) ss
all_keep base items seen os ss p turns all k d lt = keeps_each base items seen os (get_or ss k d) p turns (all k d lt)
