-- The numbers of a schedule that was read have 64 bits.
use Rattle.std.proofs.Common.{◌≡◌, ℕ, ◌≤◌, List, [], ◌∷◌, length, Option, Some, None, Ok, subst}
use Rattle.std.specs.List.{AllByRecursion, flat_map}
use Rattle.snap_semantics.specs.declared.process.Op.{Op}
use Rattle.snap_semantics.specs.declared.process.Op.TheVariants as op
use Rattle.snap_semantics.specs.Schedule.{Schedule, schedule_of, form_items}
use Rattle.snap_semantics.specs.ScheduleForms.{ItemForm, Steps, Calls, Crashes, spelled_call}
use Rattle.snap_semantics.specs.ScheduleText.{IsSchedule, FitsWords, FitsItem}
use Rattle.snap_semantics.specs.Token.{Token, TextLine, text_lines}
use Rattle.snap_text.specs.Lines.{line_tokens}
use Rattle.snap_text.specs.Tokens.{IsSound}
use Rattle.snap_text.proofs.Sound.{AreSound, lines_sound}
use Rattle.snap_sched.specs.Spelling.{IsSpelling, IsLineOf, AreLinesOf, IsSpelled}
use Rattle.snap_sched.proofs.JoinedItems.{joined_fit, steps_fit}
use Rattle.snap_sched.proofs.Spelled.{read_is_spelled}

call_fits : (i : ℕ) (o : Op) → AllByRecursion IsSound (spelled_call i o) → FitsWords o
call_fits i op.Scan h = tt
call_fits i (op.Update word value) h = (h.1.1.0, h.1.1.1.0)

form_fits : (f : ItemForm) (ts : List Token) → IsSpelling f ts → AllByRecursion IsSound ts →
    AllByRecursion FitsItem (form_items f)
form_fits (Steps i count) ts h g = steps_fit count i
form_fits (Calls i o) ts h g = (call_fits i o (subst (AllByRecursion IsSound) h g), tt)
form_fits (Crashes i) ts h g = (tt, tt)

line_fits : (f : ItemForm) (line : Option (List Token)) → IsLineOf f line → AreSound line →
    AllByRecursion FitsItem (form_items f)
line_fits f None h g = absurd h
line_fits f (Some ts) h g = form_fits f ts h g

lines_are : (fs : List ItemForm) (lines : List TextLine) → AreLinesOf fs (line_tokens lines) →
    AllByRecursion (λ line. AreSound line.tokens) lines → AllByRecursion FitsItem (flat_map form_items fs)
lines_are [] [] h g = tt
lines_are [] (line ∷ lines) h g = absurd h
lines_are (f ∷ fs) [] h g = absurd h
lines_are (f ∷ fs) (line ∷ lines) h g =
    joined_fit (form_items f) (flat_map form_items fs) (line_fits f line.tokens h.0 g.0) (lines_are fs lines h.1 g.1)

spelled_fit : (s : Schedule) (lines : List TextLine) → IsSpelled s (line_tokens lines) →
    AllByRecursion (λ line. AreSound line.tokens) lines → AllByRecursion FitsItem s.items
spelled_fit s [] h g = absurd h
spelled_fit s (line ∷ lines) h g = subst (AllByRecursion FitsItem) h.1.2 (lines_are h.1.0 lines h.1.1 g.1)

pub read_is_spelled_and_fits : (text : List ℕ) (s : Schedule) → schedule_of text ≡ Ok s →
    (length text ≤ 4194304) × IsSchedule s × IsSpelled s (line_tokens (text_lines text))
read_is_spelled_and_fits text s e =
    let h = read_is_spelled text s e in
    let kept = h.1 in (
      h.0,
      record {
        shape = kept.0;
        processes = kept.1;
        few = kept.2;
        fits = spelled_fit s (text_lines text) h.2 (lines_sound text);
      },
      h.2,
    )
