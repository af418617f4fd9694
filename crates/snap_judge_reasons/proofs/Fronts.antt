-- The first events of a history are a history with another answer in place of the last of them.
use Rattle.std.proofs.Common.{◌≡◌, ℕ, zero, suc, ◌-◌, ◌<◌, List, [], ◌∷◌, ◌++◌, length, arith}
use Rattle.std.proofs.Common.{slice_index_or, take}
use Rattle.std.proofs.lemmas.List.{get_or-take, get_or_default, length-take}
use Rattle.snap_words.specs.Shape.{Counts, IsOneOf}
use Rattle.snap_semantics.specs.declared.event.Event.{Event}
use Rattle.snap_semantics.specs.declared.event.Happening.TheVariants as what
use Rattle.snap_semantics.specs.declared.process.Op.TheVariants as op
use Rattle.snap_judge.specs.History.{Busy, Caller, Free, History, IsHistory, MayCome, MayFollow}
use Rattle.snap_judge.specs.History.{caller_after, with_caller}
use Rattle.snap_judge.specs.Linearizable.{event, last_of}
use Rattle.snap_judge.proofs.ExplainedNext.{Rises}
use Rattle.snap_judge.proofs.KeptSteps.{history_up_to}
use Rattle.std.proofs.lemmas.List.Quantifiers.{all_pairs_push}
use Rattle.snap_judge_reasons.specs.RightAnswers.{answering}

-- Where an answer may come, another one of as many words may.
may_answer : (shape : Counts) (caller : Caller) (other view : List ℕ) → MayCome shape caller (what.Answer other) →
    length view ≡ shape.w → MayCome shape caller (what.Answer view)
may_answer shape (Busy op.Scan) other view may count = count
may_answer shape _ other view may count = may

follow_answering : (shape : Counts) (callers : ℕ → Caller) (es : List Event) (j : ℕ) (d : Event)
    (other view : List ℕ) → j < length es → (slice_index_or es j d).what ≡ what.Answer other →
    length view ≡ shape.w → MayFollow shape callers es →
    MayFollow shape callers
    (take j es ++ event (slice_index_or es j d).process (slice_index_or es j d).item (what.Answer view) ∷ [])
follow_answering shape callers [] j d other view lt is count follow = absurd (omega arith)
follow_answering shape callers (e ∷ es) zero d other view lt is count follow =
    (follow.0, may_answer shape (callers e.process) other view (rw is at follow.1) count, tt)
follow_answering shape callers (e ∷ es) (suc j) d other view lt is count follow =
    let after = with_caller callers e.process (caller_after e.what) in
    (follow.0, follow.1, follow_answering shape after es j d other view (omega arith) is count follow.2)

-- A history with another answer in place of one, behind the events before it.
pub answering_history : (h : History) (k : ℕ) (other view : List ℕ) → IsHistory h → IsOneOf (length h.events) k →
    (last_of k h).what ≡ what.Answer other → length view ≡ h.shape.w → IsHistory (answering k view h)
answering_history h k other view is one answers count_is = record {
  rising = all_pairs_push Rises (take (k - 1) h.events)
      (event (last_of k h).process (last_of k h).item (what.Answer view)) (history_up_to h (k - 1) is).rising
      (λ i d lt. let low : i < k - 1 = omega (arith, length-take (k - 1) h.events) in
      rw (
        get_or-take (k - 1) h.events i d low,
        get_or_default h.events (k - 1) (event 0 0 what.Crash) d (omega (arith, one)),
      )
      (is.rising i (k - 1) d low (omega arith)));
  follow = follow_answering h.shape (λ i. Free) h.events (k - 1) (event 0 0 what.Crash) other view
      (omega arith) answers count_is is.follow;
}
