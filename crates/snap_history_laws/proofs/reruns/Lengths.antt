-- The text of a schedule has at most 12 + 52 bytes for each item (`schedule_short`).
use Rattle.std.proofs.Common.{ℕ, suc, ◌+◌, ◌*◌, ◌<◌, ◌≤◌, ◌^◌, Bool, true, false, List, [], ◌∷◌, length, nat_eq}
use Rattle.std.proofs.Common.{if◌then◌else◌, decimal, arith}
use Rattle.std.proofs.lemmas.Fmt.{length-decimal-le}
use Rattle.std.proofs.lemmas.List.{length-append}
use Rattle.std.specs.List.{AllByRecursion}
use Rattle.snap_words.specs.Shape.{max_count}
use Rattle.snap_semantics.specs.declared.process.Item.{Item}
use Rattle.snap_semantics.specs.declared.process.Op.TheVariants as op
use Rattle.snap_semantics.specs.declared.text.Symbol.TheVariants as symbol
use Rattle.snap_semantics.specs.Layout.{line_text}
use Rattle.snap_semantics.specs.Schedule.{Schedule}
use Rattle.snap_semantics.specs.ScheduleForms.{ItemForm, Steps, Calls, Crashes, spelled_form}
use Rattle.snap_semantics.specs.ScheduleText.{IsSchedule, forms_of, forms_text, item_onto, schedule_text}
use Rattle.snap_semantics.specs.Token.{Number, Sign}
use Rattle.snap_history_laws.proofs.reruns.Schedules.{IsWithin, forms_within}

-- a process or a word, a count of steps, and a number of 64 bits
short : (i : ℕ) → i ≤ max_count → length (decimal i) ≤ 2
short i le = length-decimal-le 2 i (omega arith) (omega (arith, le)) (omega (arith, le))

counted : (k : ℕ) → k ≤ 1000000 → length (decimal k) ≤ 7
counted k le = length-decimal-le 7 k (omega arith) (omega (arith, le)) (omega (arith, le))

wide : (k : ℕ) → k < 2 ^ 64 → length (decimal k) ≤ 20
wide k lt = length-decimal-le 20 k (omega arith) (omega (arith, lt)) lt

module _ (n most : ℕ) (small : n ≤ max_count) (few : most ≤ 1000000) where
  of_process : (i : ℕ) → i ≤ n → length (decimal i) ≤ 2
  of_process i le = short i (omega (arith, le, small))

  steps_short : (i count : ℕ) (v : Bool) → i ≤ n → count ≤ most →
      length (line_text (if v then Number i ∷ [] else Number i ∷ Sign symbol.Star ∷ Number count ∷ [])) ≤ 52
  steps_short i count true le lt = simp length-append (omega (arith, of_process i le))
  steps_short i count false le lt =
      simp length-append (omega (arith, of_process i le, counted count (omega arith)))

  form_short : (f : ItemForm) → IsWithin n most f → length (line_text (spelled_form f)) ≤ 52
  form_short (Steps i count) h = steps_short i count (nat_eq count 1) h.0 h.1
  form_short (Calls i op.Scan) h = simp length-append (omega (arith, of_process i h.0))
  form_short (Calls i (op.Update word value)) h =
      simp length-append (omega (arith, of_process i h.0, wide word h.1.0, wide value h.1.1))
  form_short (Crashes i) h = simp length-append (omega (arith, of_process i h))

  forms_short : (fs : List ItemForm) → AllByRecursion (IsWithin n most) fs → length (forms_text fs) ≤ 52 * length fs
  forms_short [] h = omega arith
  forms_short (f ∷ fs) h =
      omega (arith, form_short f h.0, forms_short fs h.1, length-append (line_text (spelled_form f)) (forms_text fs))

-- there are no more forms than items
one_form : (x : Item) (fs : List ItemForm) → length (item_onto x fs) ≤ suc (length fs)
one_form x fs = grind arith

no_more : (xs : List Item) → length (forms_of xs) ≤ length xs
no_more [] = omega arith
no_more (x ∷ xs) = omega (arith, one_form x (forms_of xs), no_more xs)

pub schedule_short : (s : Schedule) → IsSchedule s → length (schedule_text s) ≤ 12 + 52 * length s.items
schedule_short s h =
    let forms = forms_short s.shape.n (length s.items) h.shape.0.1 h.few (forms_of s.items)
    (forms_within s.shape.n s.items h.processes h.fits) in
    simp length-append (omega (arith, short s.shape.n h.shape.0.1, short s.shape.w h.shape.1.1, no_more s.items))
