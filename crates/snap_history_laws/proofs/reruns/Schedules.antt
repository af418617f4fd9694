-- The lines of the schedule that is printed of a live run: each token can be read again, and each line begins with a
-- digit or an `s`.
use Rattle.std.proofs.Common.{◌≡◌, ℕ, suc, ◌<◌, ◌≤◌, ◌^◌, Bool, true, false, List, [], ◌∷◌, ◌++◌, length, map, nat_eq}
use Rattle.std.proofs.Common.{if◌then◌else◌, codes, decimal, inr, refl, sym, ap, ◌∙◌, arith}
use Rattle.std.proofs.lemmas.List.{append-nil}
use Rattle.std.specs.List.{AllByRecursion}
use Rattle.snap_words.specs.Shape.{IsOneOf, max_count}
use Rattle.snap_semantics.specs.declared.process.Item.{Item}
use Rattle.snap_semantics.specs.declared.process.Op.TheVariants as op
use Rattle.snap_semantics.specs.declared.text.Symbol.TheVariants as symbol
use Rattle.snap_semantics.specs.Layout.{layout, line_text}
use Rattle.snap_semantics.specs.Schedule.{Schedule}
use Rattle.snap_semantics.specs.ScheduleForms.{ItemForm, Steps, Calls, Crashes, spelled_form, spelled_shape}
use Rattle.snap_semantics.specs.ScheduleText.{FitsItem, FitsWords, IsSchedule, forms_of}
use Rattle.snap_semantics.specs.ScheduleText.{item_onto, schedule_text}
use Rattle.snap_semantics.specs.Table.{who}
use Rattle.snap_semantics.specs.Token.{Identifier, Number, Sign, Token}
use Rattle.snap_text.specs.Tokens.{IsSound}
use Rattle.snap_text.proofs.Decimals.{decimal_digits, decimal_some}
use Rattle.snap_input.specs.Parts.{full_lines, parts_of, parts_of_lines}
use Rattle.snap_history_laws.specs.reruns.Printed.{before_report, lines_before_report}
use Rattle.snap_history_laws.proofs.reruns.Cut.{BeginsSo, laid_lines, longer_begins, none_before}
use Rattle.snap_history_laws.proofs.reruns.Cut.{number_begins, one_part, stand_before}

-- a form of a process up to n, of at most so many steps, whose numbers have 64 bits
abbrev pub IsWithin : (n most : ℕ) → ItemForm → Type 0
IsWithin n most (Steps i count) = (i ≤ n) × (count ≤ most)
IsWithin n most (Calls i o) = (i ≤ n) × FitsWords o
IsWithin n most (Crashes i) = i ≤ n

still : (n most : ℕ) (f : ItemForm) → IsWithin n most f → IsWithin n (suc most) f
still n most f h = grind arith

all_still : (n most : ℕ) (fs : List ItemForm) → AllByRecursion (IsWithin n most) fs →
    AllByRecursion (IsWithin n (suc most)) fs
all_still n most [] h = tt
all_still n most (f ∷ fs) h = (still n most f h.0, all_still n most fs h.1)

item_within : (n most : ℕ) (x : Item) (fs : List ItemForm) → who x ≤ n → FitsItem x →
    AllByRecursion (IsWithin n most) fs → AllByRecursion (IsWithin n (suc most)) (item_onto x fs)
item_within n most x fs le fits h = let more = all_still n most fs h in grind arith

pub forms_within : (n : ℕ) (xs : List Item) → AllByRecursion (λ x. IsOneOf n (who x)) xs →
    AllByRecursion FitsItem xs → AllByRecursion (IsWithin n (length xs)) (forms_of xs)
forms_within n [] h g = tt
forms_within n (x ∷ xs) h g = item_within n (length xs) x (forms_of xs) h.0.1 g.0 (forms_within n xs h.1 g.1)

module _ (n most : ℕ) (small : n ≤ max_count) (few : most ≤ 1000000) where
  -- each of their tokens can stand in a text
  form_sound : (f : ItemForm) → IsWithin n most f → AllByRecursion IsSound (spelled_form f)
  form_sound f h = grind arith

  -- the lines of a schedule begin with their process
  process_begins : (i : ℕ) (ts : List Token) → i ≤ n → BeginsSo (line_text (Number i ∷ ts))
  process_begins i ts le =
      let fits : i < 2 ^ 64 = omega (arith, le, small) in
      longer_begins (decimal i) (layout (codes "\n") 0 (Number i) ts)
      (number_begins (decimal i) (decimal_some i fits) (decimal_digits i fits))

  steps_begin : (i count : ℕ) (v : Bool) → i ≤ n →
      BeginsSo (line_text (if v then Number i ∷ [] else Number i ∷ Sign symbol.Star ∷ Number count ∷ []))
  steps_begin i count true le = process_begins i [] le
  steps_begin i count false le = process_begins i (Sign symbol.Star ∷ Number count ∷ []) le

  form_begins : (f : ItemForm) → IsWithin n most f → BeginsSo (line_text (spelled_form f))
  form_begins (Steps i count) h = steps_begin i count (nat_eq count 1) h.0
  form_begins (Calls i op.Scan) h = process_begins i (Identifier (codes "scan") ∷ []) h.0
  form_begins (Calls i (op.Update word value)) h =
      process_begins i (Identifier (codes "update") ∷ Number word ∷ Number value ∷ []) h.0
  form_begins (Crashes i) h = process_begins i (Identifier (codes "crash") ∷ []) h

  forms_sound : (fs : List ItemForm) → AllByRecursion (IsWithin n most) fs →
      AllByRecursion (AllByRecursion IsSound) (map spelled_form fs)
  forms_sound [] h = tt
  forms_sound (f ∷ fs) h = (form_sound f h.0, forms_sound fs h.1)

  forms_begin : (fs : List ItemForm) → AllByRecursion (IsWithin n most) fs →
      AllByRecursion (λ ts. BeginsSo (line_text ts)) (map spelled_form fs)
  forms_begin [] h = tt
  forms_begin (f ∷ fs) h = (form_begins f h.0, forms_begin fs h.1)

module _ (s : Schedule) (h : IsSchedule s) where
  -- the lines of a schedule
  abbrev lines : List (List Token)
  lines = spelled_shape s.shape ∷ map spelled_form (forms_of s.items)

  are_sound : AllByRecursion (AllByRecursion IsSound) lines
  are_sound =
      let n = h.shape.0.1 in let w = h.shape.1.1 in (
        ((omega arith, refl), (omega (arith, n), (omega (arith, w), tt))),
        forms_sound s.shape.n (length s.items) n h.few (forms_of s.items)
            (forms_within s.shape.n s.items h.processes h.fits),
      )

  begin_so : AllByRecursion (λ ts. BeginsSo (line_text ts)) lines
  begin_so = (
    record { byte = 115; rest = _; is = refl; other = inr refl },
    forms_begin s.shape.n (length s.items) h.shape.0.1 h.few (forms_of s.items)
        (forms_within s.shape.n s.items h.processes h.fits),
  )

  -- what stands before a report behind it is the schedule
  pub cut_there : (rest : List ℕ) → before_report (schedule_text s ++ (codes "report at" ++ rest)) ≡ schedule_text s
  cut_there rest =
      ap lines_before_report (laid_lines lines (codes "report at" ++ rest) are_sound)
      ∙ stand_before lines (full_lines (codes "report at" ++ rest)) begin_so
      ∙ ap (λ (l : List ℕ). schedule_text s ++ l) (none_before rest) ∙ append-nil (schedule_text s)

  -- the text of a schedule is one part
  pub alone : parts_of (schedule_text s) ≡ schedule_text s ∷ []
  alone =
      ap parts_of (sym (append-nil (schedule_text s)))
      ∙ ap parts_of_lines (laid_lines lines [] are_sound ∙ append-nil (map line_text lines)) ∙ one_part lines begin_so
