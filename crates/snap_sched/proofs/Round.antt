-- What is printed of a schedule is read as that schedule.
use Rattle.std.proofs.Common.{◌≡◌, ℕ, zero, suc, ◌+◌, ◌<◌, ◌≤◌, ◌^◌, Bool, true, false, List, [], ◌∷◌, ◌++◌, length}
use Rattle.std.proofs.Common.{map, Ok, nat_eq, if◌then◌else◌, refl, sym, ap, ◌∙◌, arith, subst, inl}
use Rattle.std.proofs.lemmas.Bool.{eqb-true}
use Rattle.std.proofs.lemmas.List.{length-append}
use Rattle.std.specs.List.{AllByRecursion, flat_map}
use Rattle.snap_words.specs.Shape.{Counts, IsOneOf, IsShape, max_count}
use Rattle.snap_semantics.specs.declared.process.Item.{Item}
use Rattle.snap_semantics.specs.declared.process.Item.TheVariants as item
use Rattle.snap_semantics.specs.declared.process.Op.TheVariants as op
use Rattle.snap_semantics.specs.declared.text.Symbol.TheVariants as symbol
use Rattle.snap_semantics.specs.Schedule.{Schedule, schedule_of, form_count, form_items}
use Rattle.snap_semantics.specs.ScheduleForms.{ItemForm, Steps, Calls, Crashes, spelled_shape, spelled_form}
use Rattle.snap_semantics.specs.ScheduleText.{IsSchedule, step_onto, item_onto, forms_of}
use Rattle.snap_semantics.specs.ScheduleText.{schedule_text, FitsWords, FitsItem}
use Rattle.snap_semantics.specs.Table.{who}
use Rattle.snap_semantics.specs.Token.{Token, Number, Sign, text_lines}
use Rattle.snap_text.specs.Laws.{IsSoundLine}
use Rattle.snap_text.specs.Lines.{line_tokens, found_lines}
use Rattle.snap_text.proofs.Laid.{laid_read}
use Rattle.snap_sched.specs.Spelling.{IsSpelling, AreLinesOf, IsSpelled}
use Rattle.snap_sched.proofs.Again.{spelled_is_read}
use Rattle.snap_sched.proofs.Apart.{AreApart, forms_apart}
use Rattle.snap_sched.proofs.Lines.{length_items}

-- a form whose numbers have 64 bits
abbrev pub FitsForm : ItemForm → Type 0
FitsForm (Steps i count) = (i < 2 ^ 64) × (count < 2 ^ 64)
FitsForm (Calls i o) = (i < 2 ^ 64) × FitsWords o
FitsForm (Crashes i) = i < 2 ^ 64

steps_stand : (i count : ℕ) (v : Bool) → i < 2 ^ 64 → count < 2 ^ 64 →
    IsSoundLine (if v then Number i ∷ [] else Number i ∷ Sign symbol.Star ∷ Number count ∷ [])
steps_stand i count true h g = (refl, (h, tt))
steps_stand i count false h g = (refl, (h, (tt, (g, tt))))

form_stands : (f : ItemForm) → FitsForm f → IsSoundLine (spelled_form f)
form_stands (Steps i count) h = steps_stand i count (nat_eq count 1) h.0 h.1
form_stands (Calls i op.Scan) h = (refl, (h.0, ((omega arith, refl), tt)))
form_stands (Calls i (op.Update word value)) h = (refl, (h.0, ((omega arith, refl), (h.1.0, (h.1.1, tt)))))
form_stands (Crashes i) h = (refl, (h, ((omega arith, refl), tt)))

forms_stand : (fs : List ItemForm) → AllByRecursion FitsForm fs → AllByRecursion IsSoundLine (map spelled_form fs)
forms_stand [] h = tt
forms_stand (f ∷ fs) h = (form_stands f h.0, forms_stand fs h.1)

form_spelled : (f : ItemForm) → 0 < form_count f → IsSpelling f (spelled_form f)
form_spelled (Steps i count) some = (some, inl refl)
form_spelled (Calls i o) some = refl
form_spelled (Crashes i) some = refl

forms_spelled : (fs : List ItemForm) → AreApart fs → AreLinesOf fs (found_lines (map spelled_form fs))
forms_spelled [] h = tt
forms_spelled (f ∷ fs) h = (form_spelled f h.0, forms_spelled fs h.2)

step_items_by : (i k a : ℕ) (fs : List ItemForm) (v : Bool) → nat_eq i k ≡ v →
    flat_map form_items (if v then Steps k (suc a) ∷ fs else Steps i 1 ∷ Steps k a ∷ fs)
    ≡ item.Step i ∷ flat_map form_items (Steps k a ∷ fs)
step_items_by i k a fs true e =
    ap (λ (p : ℕ). item.Step p ∷ flat_map form_items (Steps k a ∷ fs)) (sym (eqb-true i k e))
step_items_by i k a fs false e = refl

step_items : (i : ℕ) (fs : List ItemForm) → flat_map form_items (step_onto i fs) ≡ item.Step i ∷ flat_map form_items fs
step_items i (Steps k a ∷ fs) = step_items_by i k a fs (nat_eq i k) refl
step_items i _ = refl

item_items : (x : Item) (fs : List ItemForm) → flat_map form_items (item_onto x fs) ≡ x ∷ flat_map form_items fs
item_items (item.Step i) fs = step_items i fs
item_items (item.Call i o) fs = refl
item_items (item.Crash i) fs = refl

-- the items of the greatest segments are the items
pub forms_items : (xs : List Item) → flat_map form_items (forms_of xs) ≡ xs
forms_items [] = refl
forms_items (x ∷ xs) = item_items x (forms_of xs) ∙ ap (λ (ys : List Item). x ∷ ys) (forms_items xs)

-- an item whose numbers have 64 bits, that of its process too
abbrev FitsLong : Item → Type 0
FitsLong x = (who x < 2 ^ 64) × FitsItem x

all_behind : (xs ys : List Item) → AllByRecursion FitsLong (xs ++ ys) → AllByRecursion FitsLong ys
all_behind [] ys h = h
all_behind (x ∷ xs) ys h = all_behind xs ys h.1

form_fits : (f : ItemForm) (xs : List Item) → 0 < form_count f → form_count f ≤ 1000000 →
    AllByRecursion FitsLong (form_items f ++ xs) → FitsForm f
form_fits (Steps i zero) xs some few h = absurd (omega arith)
form_fits (Steps i (suc count)) xs some few h = (h.0.0, omega arith)
form_fits (Calls i o) xs some few h = h.0
form_fits (Crashes i) xs some few h = h.0.0

forms_fit : (fs : List ItemForm) → AreApart fs → AllByRecursion FitsLong (flat_map form_items fs) →
    length (flat_map form_items fs) ≤ 1000000 → AllByRecursion FitsForm fs
forms_fit [] apart h few = tt
forms_fit (f ∷ fs) apart h few =
    let all : length (form_items f ++ flat_map form_items fs) ≡ form_count f + length (flat_map form_items fs) =
    length-append (form_items f) (flat_map form_items fs)
    ∙ ap (λ (k : ℕ). k + length (flat_map form_items fs)) (length_items f) in (
      form_fits f (flat_map form_items fs) apart.0 (omega (arith, all, few)) h,
      forms_fit fs apart.2 (all_behind (form_items f) (flat_map form_items fs) h) (omega (arith, all, few)),
    )

items_fit : (n : ℕ) (xs : List Item) → n ≤ max_count → AllByRecursion (λ x. IsOneOf n (who x)) xs →
    AllByRecursion FitsItem xs → AllByRecursion FitsLong xs
items_fit n [] small h g = tt
items_fit n (x ∷ xs) small h g =
    let within = h.0.1 in
    ((omega (arith, within, small), g.0), items_fit n xs small h.1 g.1)

shape_stands : (s : Counts) → IsShape s.n s.w → IsSoundLine (spelled_shape s)
shape_stands s h =
    let n = h.0.1 in
    let w = h.1.1 in
    (refl, ((omega arith, refl), (omega (arith, n), (omega (arith, w), tt))))

-- the lines of a schedule
abbrev spelled_lines : Schedule → List (List Token)
spelled_lines s = spelled_shape s.shape ∷ map spelled_form (forms_of s.items)

-- are those of its text
printed_lines : (s : Schedule) → IsSchedule s →
    line_tokens (text_lines (schedule_text s)) ≡ found_lines (spelled_lines s)
printed_lines s h =
    let same = forms_items s.items in
    let all = items_fit s.shape.n s.items h.shape.0.1 h.processes h.fits in
    let forms =
    forms_fit (forms_of s.items) (forms_apart s.items) (subst (AllByRecursion FitsLong) (sym same) all)
    (subst (λ (xs : List Item). length xs ≤ 1000000) (sym same) h.few) in
    laid_read (spelled_lines s) (shape_stands s.shape h.shape, forms_stand (forms_of s.items) forms)

pub printed_again : (s : Schedule) → IsSchedule s → length (schedule_text s) ≤ 4194304 →
    schedule_of (schedule_text s) ≡ Ok s
printed_again s h few =
    spelled_is_read (schedule_text s) s few h
    (subst (IsSpelled s) (sym (printed_lines s h))
    (refl, (forms_of s.items, forms_spelled (forms_of s.items) (forms_apart s.items), forms_items s.items)))
