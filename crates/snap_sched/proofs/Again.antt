-- A line that spells a form of a schedule, or its shape, is read as that (`item_again`, `shape_again`).
use Rattle.std.proofs.Common.{◌≡◌, ℕ, zero, suc, ◌+◌, ◌-◌, ◌<◌, ◌≤◌, Bool, true, false, not, ◌&&◌, List, [], ◌∷◌}
use Rattle.std.proofs.Common.{◌++◌, length, Option, Some, None, Result, Ok, Err, nat_eq, nat_le, nat_lt}
use Rattle.std.proofs.Common.{if◌then◌else◌, refl, sym, ap, ◌∙◌, arith, subst, ◌⊎◌, inl, inr}
use Rattle.std.proofs.lemmas.Bool.{eqb-true, le-leb, le-ltb, lt-ltb, and_from}
use Rattle.std.proofs.lemmas.List.{length-append}
use Rattle.std.specs.List.{AllByRecursion, flat_map}
use Rattle.snap_words.specs.Shape.{Counts, IsOneOf, IsShape, max_count}
use Rattle.snap_semantics.specs.declared.process.Item.{Item}
use Rattle.snap_semantics.specs.declared.process.Op.{Op}
use Rattle.snap_semantics.specs.declared.process.Op.TheVariants as op
use Rattle.snap_semantics.specs.declared.refusal.ScheduleRefusal.{ScheduleRefusal}
use Rattle.snap_semantics.specs.declared.refusal.ScheduleRefusal.TheVariants as refusal
use Rattle.snap_semantics.specs.declared.text.Symbol.TheVariants as symbol
use Rattle.snap_semantics.specs.Answers.{◌>>=◌}
use Rattle.snap_semantics.specs.Rules.{or_else}
use Rattle.snap_semantics.specs.Rules.{form_or, found_or}
use Rattle.snap_semantics.specs.Schedule.{Schedule, admitted, items_of, schedule_of_lines}
use Rattle.snap_semantics.specs.Schedule.{schedule_of, form_process, form_count, form_items}
use Rattle.snap_semantics.specs.ScheduleForms.{ItemForm, Steps, Calls, Crashes, spelled_shape, spelled_steps}
use Rattle.snap_semantics.specs.ScheduleForms.{spelled_call, spelled_form, is_count, shape_form, step_form}
use Rattle.snap_semantics.specs.ScheduleForms.{steps_form, scan_form, update_form, crash_form, item_form}
use Rattle.snap_semantics.specs.ScheduleText.{IsSchedule}
use Rattle.snap_semantics.specs.Table.{who}
use Rattle.snap_semantics.specs.Token.{Token, Number, Sign, TextLine, text_lines}
use Rattle.snap_text.specs.Lines.{line_tokens}
use Rattle.snap_sched.specs.Spelling.{IsSpelling, IsLineOf, AreLinesOf, IsSpelled}
use Rattle.snap_sched.proofs.Lines.{length_items}

is_count_of : (k : ℕ) → IsOneOf max_count k → is_count k ≡ true
is_count_of k h =
    let low = h.0 in
    let high = h.1 in
    and_from (nat_le 1 k) (nat_le k max_count) (le-leb 1 k (omega (arith, low))) (le-leb k max_count high)

shape_by : (s : Counts) (b : Bool) → b ≡ true →
    (let r : Option Counts = if b then Some (record { n = s.n; w = s.w }) else None in r) ≡ Some s
shape_by s true e = refl
shape_by s false e = absurd cc

pub shape_again : (s : Counts) → IsShape s.n s.w → shape_form (spelled_shape s) ≡ Some s
unfolding shape_form
shape_again s h =
    shape_by s (is_count s.n && is_count s.w)
    (and_from (is_count s.n) (is_count s.w) (is_count_of s.n h.0) (is_count_of s.w h.1))

counted_by : (x : ItemForm) (b : Bool) (o : Option ItemForm) → b ≡ true →
    or_else (if b then Some x else None) o ≡ Some x
counted_by x true o e = refl
counted_by x false o e = absurd cc

counted_again : (i count : ℕ) → 0 < count →
    item_form (Number i ∷ Sign symbol.Star ∷ Number count ∷ []) ≡ Some (Steps i count)
unfolding item_form step_form steps_form scan_form update_form crash_form
counted_again i count some = counted_by (Steps i count) (nat_lt 0 count) None (lt-ltb 0 count some)

one_again : (i : ℕ) → item_form (Number i ∷ []) ≡ Some (Steps i 1)
unfolding item_form step_form steps_form scan_form update_form crash_form
one_again i = refl

steps_again_by : (i count : ℕ) (v : Bool) → nat_eq count 1 ≡ v → 0 < count →
    item_form (if v then Number i ∷ [] else Number i ∷ Sign symbol.Star ∷ Number count ∷ []) ≡ Some (Steps i count)
steps_again_by i count true e some =
    one_again i ∙ ap (λ (k : ℕ). let o : Option ItemForm = Some (Steps i k) in o) (sym (eqb-true count 1 e))
steps_again_by i count false e some = counted_again i count some

pub call_again : (i : ℕ) (o : Op) → item_form (spelled_call i o) ≡ Some (Calls i o)
unfolding item_form step_form steps_form scan_form update_form crash_form
call_again i op.Scan = refl
call_again i (op.Update word value) = refl

crash_again : (i : ℕ) → item_form (spelled_form (Crashes i)) ≡ Some (Crashes i)
unfolding item_form step_form steps_form scan_form update_form crash_form
crash_again i = refl

steps_again : (i count : ℕ) (ts : List Token) → 0 < count → (ts ≡ spelled_steps i count)
    ⊎ (ts ≡ Number i ∷ Sign symbol.Star ∷ Number count ∷ []) → item_form ts ≡ Some (Steps i count)
steps_again i count ts some (inl e) = ap item_form e ∙ steps_again_by i count (nat_eq count 1) refl some
steps_again i count ts some (inr e) = ap item_form e ∙ counted_again i count some

pub item_again : (f : ItemForm) (ts : List Token) → IsSpelling f ts → item_form ts ≡ Some f
item_again (Steps i count) ts h = steps_again i count ts h.0 h.1
item_again (Calls i o) ts h = ap item_form h ∙ call_again i o
item_again (Crashes i) ts h = ap item_form h ∙ crash_again i

pub line_again : (e : ScheduleRefusal) (f : ItemForm) (line : Option (List Token)) → IsLineOf f line →
    form_or e item_form line ≡ Ok f
line_again e f None h = absurd h
line_again e f (Some ts) h = ap (found_or e) (item_again f ts h)

spelled_some : (f : ItemForm) (ts : List Token) → IsSpelling f ts → 0 < form_count f
spelled_some (Steps i count) ts h = h.0
spelled_some (Calls i o) ts h = omega arith
spelled_some (Crashes i) ts h = omega arith

line_some : (f : ItemForm) (line : Option (List Token)) → IsLineOf f line → 0 < form_count f
line_some f None h = absurd h
line_some f (Some ts) h = spelled_some f ts h

admitted_by : (n left line : ℕ) (f : ItemForm) (there many : Bool) → there ≡ true → many ≡ false →
    (let r : Result ItemForm ScheduleRefusal =
    if not there then Err (refusal.NoSuchProcess line) else if many then Err (refusal.TooManyItems line) else Ok f in r)
    ≡ Ok f
admitted_by n left line f true false e d = refl
admitted_by n left line f true true e d = absurd cc
admitted_by n left line f false many e d = absurd cc

admitted_again : (n left line : ℕ) (f : ItemForm) → IsOneOf n (form_process f) →
    form_count f ≤ left → admitted n left line f ≡ Ok f
admitted_again n left line f there few =
    let low = there.0 in
    admitted_by n left line f (nat_le 1 (form_process f) && nat_le (form_process f) n) (nat_lt left (form_count f))
    (and_from (nat_le 1 (form_process f)) (nat_le (form_process f) n) (le-leb 1 (form_process f) (omega (arith, low)))
    (le-leb (form_process f) n there.1))
    (le-ltb left (form_count f) few)

pub all_rest : (P : ℕ → Type 0) (xs ys : List Item) → AllByRecursion (λ x. P (who x)) (xs ++ ys) →
    AllByRecursion (λ x. P (who x)) ys
all_rest P [] ys h = h
all_rest P (x ∷ xs) ys h = all_rest P xs ys h.1

pub first_of : (P : ℕ → Type 0) (f : ItemForm) (xs : List Item) → 0 < form_count f →
    AllByRecursion (λ x. P (who x)) (form_items f ++ xs) → P (form_process f)
first_of P (Steps i zero) xs some h = absurd (omega arith)
first_of P (Steps i (suc count)) xs some h = h.0
first_of P (Calls i o) xs some h = h.0
first_of P (Crashes i) xs some h = h.0

pub items_again : (n left : ℕ) (fs : List ItemForm) (lines : List TextLine) → AreLinesOf fs (line_tokens lines) →
    AllByRecursion (λ x. IsOneOf n (who x)) (flat_map form_items fs) → length (flat_map form_items fs) ≤ left →
    items_of n left lines ≡ Ok (flat_map form_items fs)
items_again n left [] [] h there few = refl
items_again n left [] (line ∷ lines) h there few = absurd h
items_again n left (f ∷ fs) [] h there few = absurd h
items_again n left (f ∷ fs) (line ∷ lines) h there few =
    let longer : length (form_items f ++ flat_map form_items fs) ≡ form_count f + length (flat_map form_items fs) =
    length-append (form_items f) (flat_map form_items fs)
    ∙ ap (λ (k : ℕ). k + length (flat_map form_items fs)) (length_items f) in
    let ok = admitted_again n left line.number f
    (first_of (λ i. IsOneOf n i) f (flat_map form_items fs) (line_some f line.tokens h.0) there)
    (omega (arith, longer, few)) in
    let rest = items_again n (left - form_count f) fs lines h.1
    (all_rest (λ i. IsOneOf n i) (form_items f) (flat_map form_items fs) there) (omega (arith, longer, few)) in
    ap (λ (r : Result ItemForm ScheduleRefusal). r >>= λ form. admitted n left line.number form
    >>= λ x. items_of n (left - form_count x) lines >>= λ items. Ok (form_items x ++ items))
    (line_again (refusal.BadItem line.number) f line.tokens h.0)
    ∙ ap (λ (r : Result ItemForm ScheduleRefusal).
    r >>= λ x. items_of n (left - form_count x) lines >>= λ items. Ok (form_items x ++ items)) ok
    ∙ ap (λ (r : Result (List Item) ScheduleRefusal).
    r >>= λ items. let y : Result (List Item) ScheduleRefusal = Ok (form_items f ++ items) in y) rest

shape_line_again : (s : Counts) (line : Option (List Token)) → IsShape s.n s.w → line ≡ Some (spelled_shape s) →
    form_or refusal.BadShape shape_form line ≡ Ok s
shape_line_again s line h e =
    ap (form_or refusal.BadShape shape_form) e ∙ ap (found_or refusal.BadShape) (shape_again s h)

pub lines_again : (s : Schedule) (lines : List TextLine) → IsSchedule s → IsSpelled s (line_tokens lines) →
    schedule_of_lines lines ≡ Ok s
lines_again s [] h spelled = absurd spelled
lines_again s (line ∷ lines) h spelled =
    let fs = spelled.1.0 in
    let made = spelled.1.2 in
    let rest = items_again s.shape.n 1000000 fs lines spelled.1.1
    (subst (λ (xs : List Item). AllByRecursion (λ x. IsOneOf s.shape.n (who x)) xs) (sym made) h.processes)
    (subst (λ (xs : List Item). length xs ≤ 1000000) (sym made) h.few) in
    ap (λ (r : Result Counts ScheduleRefusal). r >>= λ shape. items_of shape.n 1000000 lines >>= λ items.
    let y : Result Schedule ScheduleRefusal = Ok (record { shape = shape; items = items }) in y)
    (shape_line_again s.shape line.tokens h.shape spelled.0)
    ∙ ap (λ (r : Result (List Item) ScheduleRefusal).
    r >>= λ items. let y : Result Schedule ScheduleRefusal = Ok (record { shape = s.shape; items = items }) in y) rest
    ∙ ap (λ (xs : List Item).
    let y : Result Schedule ScheduleRefusal = Ok (record { shape = s.shape; items = xs }) in y) made

short_by : (n : ℕ) (r : Result Schedule ScheduleRefusal) (b : Bool) → b ≡ false →
    (if b then Err refusal.TooLong else r) ≡ r
short_by n r true e = absurd cc
short_by n r false e = refl

pub spelled_is_read : (text : List ℕ) (s : Schedule) → length text ≤ 4194304 → IsSchedule s →
    IsSpelled s (line_tokens (text_lines text)) → schedule_of text ≡ Ok s
spelled_is_read text s few h spelled =
    short_by (length text) (schedule_of_lines (text_lines text)) (nat_lt 4194304 (length text))
    (le-ltb 4194304 (length text) few) ∙ lines_again s (text_lines text) h spelled
