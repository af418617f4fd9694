-- Sample texts of histories: as which histories they are read, or why they are refused, by computing.
use Rattle.std.specs.Fmt.{digits}
use Rattle.std.specs.Prelude.{◌≡◌, [], ◌∷◌, Ok, Err, codes, refl}
use Rattle.snap_semantics.specs.declared.event.Happening.TheVariants as what
use Rattle.snap_semantics.specs.declared.process.Op.TheVariants as op
use Rattle.snap_semantics.specs.ScheduleForms.{shape_form}
use Rattle.snap_judge.specs.History.{History}
use Rattle.snap_judge.specs.Linearizable.{event}
use Rattle.snap_history_text.specs.HistoryForms.{scan_form, update_form, call_form, mark_form, answer_form, what_form}
use Rattle.snap_history_text.specs.HistoryForms.{plain_form, numbered_form, event_form}
use Rattle.snap_history_text.specs.HistoryText.{history_of, history_text}
use Rattle.snap_history_text.specs.declared.refusal.HistoryRefusal.TheVariants as refusal

abbrev overlapping : History
overlapping = record {
  shape = record { n = 2; w = 2 };
  events =
      event 1 1 (what.Call (op.Update 1 7)) ∷ event 2 2 (what.Call op.Scan) ∷ event 1 5 what.Done
      ∷ event 2 6 (what.Answer (7 ∷ 0 ∷ [])) ∷ event 2 7 what.Crash ∷ [];
}

-- an event without a number has the next one; comments and lines without tokens are passed over
numbers_read :
    history_of (codes "# two\nshape 2 2\n1 update 1 7\n2 scan\n\nevent 5 1 done # late\n2 answer 7 0\n2 crash")
    ≡ Ok overlapping
unfolding shape_form scan_form update_form call_form mark_form answer_form what_form plain_form numbered_form event_form
numbers_read = refl

printed : history_text overlapping
    ≡ codes
    "shape 2 2\nevent 1 1 update 1 7\nevent 2 2 scan\nevent 5 1 done\nevent 6 2 answer 7 0\nevent 7 2 crash\n"
unfolding digits
printed = refl

no_shape :
    (history_of [] ≡ Err refusal.BadShape)
    × (history_of (codes "shape 65 1\n1 scan\n") ≡ Err refusal.BadShape)
    × (history_of (codes "1 scan\n") ≡ Err refusal.BadShape)
unfolding shape_form scan_form update_form call_form mark_form answer_form what_form plain_form numbered_form event_form
no_shape = (refl, refl, refl)

no_event :
    (history_of (codes "shape 1 1\n1 wait\n") ≡ Err (refusal.BadEvent 2))
    × (history_of (codes "shape 1 1\n\nevent 1 scan\n") ≡ Err (refusal.BadEvent 3))
    × (history_of (codes "shape 1 1\n1 scan\n1 answer a\n") ≡ Err (refusal.BadEvent 3))
    × (history_of (codes "shape 1 1\n2 scan\n") ≡ Err (refusal.NoSuchProcess 2))
    × (history_of (codes "shape 1 1\n0 scan\n") ≡ Err (refusal.NoSuchProcess 2))
    × (history_of (codes "shape 2 1\n1 update 2 5\n") ≡ Err (refusal.NoSuchWord 2))
unfolding shape_form scan_form update_form call_form mark_form answer_form what_form plain_form numbered_form event_form
no_event = (refl, refl, refl, refl, refl, refl)

-- a number rises, from 1 on, and has 64 bits; that is asked before the word
not_rising :
    (history_of (codes "shape 1 1\nevent 3 1 scan\nevent 3 1 crash\n") ≡ Err (refusal.NotRising 3))
    × (history_of (codes "shape 1 1\nevent 0 1 update 9 9\n") ≡ Err (refusal.NotRising 2))
    × (history_of (codes "shape 1 1\nevent 18446744073709551615 1 scan\n1 crash\n") ≡ Err (refusal.NotRising 3))
unfolding shape_form scan_form update_form call_form mark_form answer_form what_form plain_form numbered_form event_form
not_rising = (refl, refl, refl)

wrong_turns :
    (history_of (codes "shape 1 1\n1 scan\n1 scan\n") ≡ Err (refusal.Busy 3))
    × (history_of (codes "shape 1 1\n1 crash\n1 scan\n") ≡ Err (refusal.Crashed 3))
    × (history_of (codes "shape 1 1\n1 scan\n1 crash\n1 answer 0\n") ≡ Err (refusal.Crashed 4))
    × (history_of (codes "shape 1 1\n1 done\n") ≡ Err (refusal.NotCalled 2))
    × (history_of (codes "shape 1 1\n1 scan\n1 done\n") ≡ Err (refusal.NotCalled 3))
    × (history_of (codes "shape 1 1\n1 update 1 5\n1 answer 5\n") ≡ Err (refusal.NotCalled 3))
    × (history_of (codes "shape 1 2\n1 scan\n1 answer 5\n") ≡ Err (refusal.BadView 3))
unfolding shape_form scan_form update_form call_form mark_form answer_form what_form plain_form numbered_form event_form
wrong_turns = (refl, refl, refl, refl, refl, refl, refl)
