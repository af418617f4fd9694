-- A line that spells an event is read as that event, and its tokens can stand in a text.
use Rattle.std.proofs.Common.{◌≡◌, ℕ, ◌<◌, ◌≤◌, ◌^◌, List, [], ◌∷◌, map, Option, Some, None, option_map, refl, ap}
use Rattle.std.proofs.Common.{arith}
use Rattle.std.specs.List.{AllByRecursion}
use Rattle.snap_words.specs.Shape.{Counts, IsOneOf, IsShape}
use Rattle.snap_semantics.specs.declared.event.Event.{Event}
use Rattle.snap_semantics.specs.declared.event.Happening.{Happening}
use Rattle.snap_semantics.specs.declared.event.Happening.TheVariants as what
use Rattle.snap_semantics.specs.declared.process.Op.TheVariants as op
use Rattle.snap_semantics.specs.Rules.{◌>>=◌, or_else}
use Rattle.snap_semantics.specs.ScheduleForms.{spelled_shape}
use Rattle.snap_semantics.specs.Token.{Number}
use Rattle.snap_text.specs.Laws.{IsSoundLine}
use Rattle.snap_text.specs.Tokens.{IsSound}
use Rattle.snap_history_text.specs.HistoryForms.{spelled_what, spelled_event, scan_form, update_form, call_form}
use Rattle.snap_history_text.specs.HistoryForms.{mark_form, with_value, values_of, answer_form, what_form, plain_form}
use Rattle.snap_history_text.specs.HistoryForms.{numbered_form, event_form}
use Rattle.snap_history_text.specs.HistoryLaws.{FitsHappening, FitsEvent}
use Rattle.snap_history_text.specs.declared.event_form.EventForm.{EventForm}

values_again : (xs : List ℕ) → values_of (map (λ x. Number x) xs) ≡ Some xs
values_again [] = refl
values_again (x ∷ xs) = ap (with_value x) (values_again xs)

what_again : (w : Happening) → what_form (spelled_what w) ≡ Some w
unfolding what_form call_form scan_form update_form answer_form mark_form
what_again (what.Call op.Scan) = refl
what_again (what.Call (op.Update word value)) = refl
what_again (what.Answer view) =
    ap (λ (o : Option (List ℕ)). or_else (option_map (λ v. what.Answer v) o) None) (values_again view)
what_again what.Done = refl
what_again what.Crash = refl

-- what the line of an event tells
abbrev pub told : Event → EventForm
told e = record { number = Some e.item; process = e.process; what = e.what }

pub event_again : (e : Event) → event_form (spelled_event e) ≡ Some (told e)
unfolding event_form numbered_form plain_form
event_again e =
    ap (λ (o : Option Happening). or_else (o >>= λ w.
    let x : Option EventForm = Some (record { number = Some e.item; process = e.process; what = w }) in x) None)
    (what_again e.what)

numbers_stand : (xs : List ℕ) → AllByRecursion (λ x. x < 2 ^ 64) xs →
    AllByRecursion IsSound (map (λ x. Number x) xs)
numbers_stand [] h = tt
numbers_stand (x ∷ xs) h = (h.0, numbers_stand xs h.1)

what_stands : (w : Happening) → FitsHappening w → AllByRecursion IsSound (spelled_what w)
what_stands (what.Call op.Scan) h = ((omega arith, refl), tt)
what_stands (what.Call (op.Update word value)) h = ((omega arith, refl), (h.0, (h.1, tt)))
what_stands (what.Answer view) h = ((omega arith, refl), numbers_stand view h)
what_stands _ h = ((omega arith, refl), tt)

pub event_stands : (n : ℕ) (e : Event) → n ≤ 64 → IsOneOf n e.process → FitsEvent e → IsSoundLine (spelled_event e)
event_stands n e few there h =
    (refl, ((omega arith, refl), (h.1, (omega (arith, there.1, few), what_stands e.what h.2))))

pub shape_stands : (s : Counts) → IsShape s.n s.w → IsSoundLine (spelled_shape s)
shape_stands s h =
    (refl, ((omega arith, refl), (omega (arith, h.0.1), (omega (arith, h.1.1), tt))))
