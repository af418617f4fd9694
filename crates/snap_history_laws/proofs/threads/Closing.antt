-- The seats of a closed desk were told the turns of its record.
use Rattle.std.proofs.Common.{◌≡◌, ℕ, ◌⊎◌, inl, inr, List, [], ◌∷◌, eq-eqb, ne_eqb, refl, sym, subst, arith}
use Rattle.std.proofs.lemmas.Bool.{cases_eq}
use Rattle.std.proofs.lemmas.List.Elements.{All-head, All-tail}
use Rattle.std.specs.List.{All, Contains}
use Rattle.snap_words.specs.Shape.{IsOneOf}
use Rattle.snap_semantics.specs.declared.process.Item.{Item}
use Rattle.snap_runs.specs.Run.{IsValidRun, Run}
use Rattle.snap_runs.proofs.Calls.{item_one}
use Rattle.snap_judge.proofs.ExplainedLists.{contains_head}
use Rattle.snap_live.specs.Closed.{HasSeat}
use Rattle.snap_live.specs.Shown.{Keeps, SeatView}
use Rattle.snap_live.specs.Turns.{setting_of, turns_of}
use Rattle.snap_live.specs.declared.seat_state.OwnTurn.{OwnTurn}
use Rattle.snap_live.specs.declared.seat_state.Setting.{Setting}
use Rattle.snap_history_laws.specs.threads.DeskLaws.{IsClosed, SeatsAreToldTheRecord, told_at}
use Rattle.snap_history_laws.specs.threads.Told.{told_in}
use Rattle.snap_history_laws.proofs.threads.Turning.{told_is}

-- a list that contains nothing
empty : (us : List OwnTurn) → ((u : OwnTurn) → Contains us u → ⊥) → us ≡ []
empty [] not = refl
empty (u ∷ us) not = absurd (not u (contains_head u us))

-- where a process has no seat there are no turns of it
pub no_turns : (r : Run) → IsValidRun r → (p : ℕ) → ¬ IsOneOf r.shape.n p → told_in r p ≡ []
no_turns r fits p not = empty (told_in r p) (λ u has.
    let t = told_is r p u has in
    not (subst (IsOneOf r.shape.n) (sym t.mine) (item_one r fits t.place t.within)))

-- a process is there, or it is not
pub one_or_not : (n p : ℕ) → IsOneOf n p ⊎ (¬ IsOneOf n p)
one_or_not n p = grind arith

-- the turns of its seat, or none
of_seats : (base : Setting) (items : List Item) (p : ℕ) (ss : List SeatView) → All (Keeps base items) ss →
    HasSeat p ss ⊎ (turns_of base p items ≡ []) → told_at ss p ≡ turns_of base p items
of_seats base items p [] kept (inl has) = absurd has
of_seats base items p [] kept (inr none) = sym none
of_seats base items p (s ∷ ss) kept has = elim (cases_eq p s.process) [
  | inl same ↦ rw (eq-eqb p s.process same, same) (sym (All-head (Keeps base items) s ss kept).1)
  | inr other ↦ rw (ne_eqb p s.process other)
      (of_seats base items p ss (All-tail (Keeps base items) s ss kept) (elim has [
        | inl (inl same) ↦ absurd (other same)
        | inl (inr more) ↦ inl more
        | inr none ↦ inr none
      ]))
]

pub seats_are_told : SeatsAreToldTheRecord
seats_are_told base seats kept h p =
    let own : IsClosed (setting_of kept) seats kept = rw (← h.of_base) at h in
    of_seats (setting_of kept) kept.items p seats own.keeps (elim (one_or_not kept.shape.n p) [
      | inl one ↦ inl (own.whole p one)
      | inr not ↦ inr (no_turns kept own.fits p not)
    ])
