-- Where a seat of a desk meets a note of another, what the note's maker had ended precedes what the seat then calls,
-- in each linearization.
use Rattle.std.proofs.Common.{◌≡◌, ℕ, suc, ◌<◌, inl, inr, List, [], length, take, refl, sym, ap, ◌∙◌, subst, arith}
use Rattle.std.proofs.Math.Seq.{take-append_seam}
use Rattle.std.proofs.lemmas.Bool.{cases_eq}
use Rattle.std.proofs.lemmas.List.{append-nil, take_all}
use Rattle.std.specs.List.{Contains}
use mathlib.Core.List.{IsPrefix}
use Rattle.snap_semantics.specs.declared.process.Item.{Item}
use Rattle.snap_semantics.specs.declared.process.Op.{Op}
use Rattle.snap_semantics.specs.declared.process.Outcome.TheVariants.{Called}
use Rattle.snap_runs.specs.Operation.{EndedBefore}
use Rattle.snap_runs.specs.Run.{outcome}
use Rattle.snap_live.specs.Shown.{DeskView, SeatView}
use Rattle.snap_live.specs.Turns.{last_outcome, run_of}
use Rattle.snap_live.specs.declared.seat_state.OwnTurn.{OwnTurn}
use Rattle.snap_live.specs.declared.seat_state.Setting.{Setting}
use Rattle.snap_live.proofs.Joins.{prefix_length}
use Rattle.snap_live.proofs.Runs.{prefix_chain}
use Rattle.snap_history_laws.specs.threads.DeskLaws.{CallsAfterNote, NotesOrderOperations, SeatsOwnWhatTheySaw}
use Rattle.snap_history_laws.specs.threads.Told.{IsEnd}
use Rattle.snap_history_laws.proofs.threads.Turning.{told_is}

module _ (noter before after : SeatView) (op : Op) (number : ℕ) (h : CallsAfterNote noter before after op number)
    (t : OwnTurn) (has : Contains noter.own t) (ends : IsEnd t.outcome) where
  abbrev base : Setting
  base = noter.desk.base

  ended_before : t.number < number
  ended_before =
      let items = h.noted.0 in
      let u = told_is (run_of base items) noter.process t (rw h.noted.2 at has) in
      let seen : IsPrefix items after.seen =
      prefix_chain items before.seen after.seen (prefix_chain items noter.seen before.seen h.noted.1 h.met)
      h.called.more in
      let place : t.number ≡ suc u.place = ap (λ (v : OwnTurn). v.number) u.is in
      let longer = prefix_length items after.seen seen in
      let numbered = h.called.numbered in
      let within = u.within in
      elim (cases_eq (suc u.place) number) [
        | inl same ↦ (
            let whole : items ≡ after.seen =
            sym (take-append_seam items seen.0) ∙ ap (take (length items)) seen.1
            ∙ take_all (length items) after.seen (omega arith) in
            let came : t.outcome ≡ Called =
            ap (λ (v : OwnTurn). v.outcome) u.is ∙ ap (outcome (run_of base items)) (same ∙ h.called.numbered)
            ∙ ap (λ (xs : List Item). outcome (run_of base xs) (length after.seen)) whole
            ∙ ap (λ (d : DeskView). last_outcome d.base after.seen) h.one_desk ∙ sym h.called.answered in
            absurd (subst IsEnd came ends))
        | inr other ↦ omega arith
      ]

pub notes_order : NotesOrderOperations
notes_order noter before after op first second h told =
    let ended : EndedBefore first second =
    (told.0.number, told.2, ended_before noter before after op second.call h told.0 told.1 told.3) in
    record {
      ended = ended;
      stands = λ w t os l j k d below within is is'. l.order j k d below within (rw (is, is') ended);
    }

pub own_what_they_saw : SeatsOwnWhatTheySaw
own_what_they_saw = record {
  at_first = λ desk process. ([], ([], refl), refl);
  after_turn = λ before after x number o same turn.
      (after.seen, ([], append-nil after.seen), rw (same.0, same.1) turn.turns);
  after_more = λ before after same more own old.
      (old.0, prefix_chain old.0 before.seen after.seen old.1 more, rw (same.0, same.1) (own ∙ old.2));
}
