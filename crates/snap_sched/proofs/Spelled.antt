-- A schedule that was read is spelled by the lines.
use Rattle.std.proofs.Common.{◌≡◌, ℕ, ◌+◌, ◌-◌, ◌≤◌, Bool, true, false, List, [], ◌∷◌, ◌++◌, length, Option, Some}
use Rattle.std.proofs.Common.{None, Result, Ok, Err, nat_lt, if◌then◌else◌, refl, sym, ap, ◌∙◌, arith, subst}
use Rattle.std.proofs.lemmas.Bool.{ltb-false}
use Rattle.std.proofs.lemmas.List.{length-append}
use Rattle.std.specs.List.{AllByRecursion, flat_map}
use Rattle.snap_words.specs.Shape.{IsOneOf, IsShape}
use Rattle.snap_semantics.specs.declared.process.Item.{Item}
use Rattle.snap_semantics.specs.declared.refusal.ScheduleRefusal.{ScheduleRefusal}
use Rattle.snap_semantics.specs.declared.refusal.ScheduleRefusal.TheVariants as refusal
use Rattle.snap_semantics.specs.Answers.{◌>>=◌}
use Rattle.snap_semantics.specs.Rules.{form_or, found_or}
use Rattle.snap_semantics.specs.Schedule.{Schedule, admitted, items_of, schedule_of_lines}
use Rattle.snap_semantics.specs.Schedule.{schedule_of, form_process, form_count, form_items}
use Rattle.snap_semantics.specs.ScheduleForms.{ItemForm, shape_form, item_form}
use Rattle.snap_semantics.specs.Table.{who}
use Rattle.snap_semantics.specs.Token.{Token, TextLine, text_lines}
use Rattle.snap_text.specs.Lines.{line_tokens}
use Rattle.snap_sched.specs.Spelling.{IsSpelling, IsLineOf, AreLinesOf, IsSpelled}
use Rattle.snap_sched.proofs.Found.{shape_found, item_found}
use Rattle.snap_sched.proofs.Lines.{is_admitted, admitted_is, length_items, all_more, all_form}

-- what came first, and what came of it
then_found : {A B : Type 0} (r : Result A ScheduleRefusal) (f : A → Result B ScheduleRefusal) (y : B) →
    (r >>= f) ≡ Ok y → (x : A) × (r ≡ Ok x) × (f x ≡ Ok y)
then_found (Ok x) f y e = (x, refl, e)
then_found (Err d) f y e = absurd cc

or_found : {A : Type 0} (e : ScheduleRefusal) (o : Option A) (x : A) → found_or e o ≡ Ok x → o ≡ Some x
or_found e None x h = absurd cc
or_found e (Some y) x h = cc

-- a rule that fits a line
form_found : {A : Type 0} (e : ScheduleRefusal) (rule : List Token → Option A) (line : Option (List Token)) (x : A) →
    form_or e rule line ≡ Ok x → (ts : List Token) × (line ≡ Some ts) × (rule ts ≡ Some x)
form_found e rule None x h = absurd cc
form_found e rule (Some ts) x h = (ts, refl, or_found e (rule ts) x h)

line_of : (line : Option (List Token)) (ts : List Token) (f : ItemForm) → line ≡ Some ts →
    IsSpelling f ts → IsLineOf f line
line_of line ts f e h = subst (λ (o : Option (List Token)). IsLineOf f o) (sym e) h

-- the forms of lines, of which the items are made
pub record Reads (n left : ℕ) (items : List Item) (lines : List TextLine) : Type 0 where
  pub forms : List ItemForm
  pub spelled : AreLinesOf forms (line_tokens lines)
  pub made : flat_map form_items forms ≡ items
  pub processes : AllByRecursion (λ x. IsOneOf n (who x)) items
  pub few : length items ≤ left

reads_line : (n left : ℕ) (items more : List Item) (line : TextLine) (lines : List TextLine) (f : ItemForm) →
    IsLineOf f line.tokens → IsOneOf n (form_process f) → form_count f ≤ left →
    form_items f ++ more ≡ items → Reads n (left - form_count f) more lines → Reads n left items (line ∷ lines)
reads_line n left items more line lines f h there fits is rest =
    let longer : length items ≡ form_count f + length more =
    ap length (sym is) ∙ length-append (form_items f) more ∙ ap (λ (k : ℕ). k + length more) (length_items f) in
    record {
      forms = f ∷ rest.forms;
      spelled = (h, rest.spelled);
      made = ap (λ (xs : List Item). form_items f ++ xs) rest.made ∙ is;
      processes =
          subst (λ (xs : List Item). AllByRecursion (λ x. IsOneOf n (who x)) xs) is
          (all_more (λ i. IsOneOf n i) (form_items f) more (all_form (λ i. IsOneOf n i) f there) rest.processes);
      few = let h = rest.few in omega (arith, longer, h, fits);
    }

ok_items : (xs ys : List Item) → (let r : Result (List Item) ScheduleRefusal = Ok xs in r) ≡ Ok ys → xs ≡ ys
ok_items xs ys e = cc

pub items_found : (n left : ℕ) (lines : List TextLine) (items : List Item) →
    items_of n left lines ≡ Ok items → Reads n left items lines
items_found n left [] items e = record {
  forms = [];
  spelled = tt;
  made = ok_items [] items e;
  processes = subst (λ (xs : List Item). AllByRecursion (λ x. IsOneOf n (who x)) xs) (ok_items [] items e) tt;
  few = let none = ap length (ok_items [] items e) in omega (arith, none);
}
items_found n left (line ∷ lines) items e =
    let a = then_found (form_or (refusal.BadItem line.number) item_form line.tokens) _ items e in
    let b = then_found (admitted n left line.number a.0) _ items a.2 in
    let rest = then_found (items_of n (left - form_count b.0) lines) _ items b.2 in
    let h = form_found (refusal.BadItem line.number) item_form line.tokens a.0 a.1 in
    let ok = is_admitted n left line.number a.0 b.0 b.1 in
    let same = admitted_is n left line.number a.0 b.0 b.1 in
    reads_line n left items rest.0 line lines b.0
    (line_of line.tokens h.0 b.0 h.1 (subst (λ (x : ItemForm). IsSpelling x h.0) same (item_found h.0 a.0 h.2)))
    ok.0 ok.1 (ok_items (form_items b.0 ++ rest.0) items rest.2)
    (items_found n (left - form_count b.0) lines rest.0 rest.1)

ok_schedule : (x y : Schedule) → (let r : Result Schedule ScheduleRefusal = Ok x in r) ≡ Ok y → x ≡ y
ok_schedule x y e = cc

-- what a schedule keeps besides that its numbers have 64 bits
abbrev pub IsPlaced : Schedule → Type 0
IsPlaced s =
    IsShape s.shape.n s.shape.w × AllByRecursion (λ x. IsOneOf s.shape.n (who x)) s.items × (length s.items ≤ 1000000)

-- a schedule that lines spell
abbrev pub SpelledBy : Schedule → List TextLine → Type 0
SpelledBy s lines = IsPlaced s × IsSpelled s (line_tokens lines)

pub lines_found : (lines : List TextLine) (s : Schedule) → schedule_of_lines lines ≡ Ok s → SpelledBy s lines
lines_found [] s e = absurd cc
lines_found (line ∷ lines) s e =
    let a = then_found (form_or refusal.BadShape shape_form line.tokens) _ s e in
    let b = then_found (items_of a.0.n 1000000 lines) _ s a.2 in
    let h = form_found refusal.BadShape shape_form line.tokens a.0 a.1 in
    let shape = shape_found h.0 a.0 h.2 in
    let reads = items_found a.0.n 1000000 lines b.0 b.1 in
    subst (λ (x : Schedule). SpelledBy x (line ∷ lines)) (ok_schedule (record { shape = a.0; items = b.0 }) s b.2) (
      (shape.1, reads.processes, reads.few),
      (
        h.1 ∙ ap (λ (ts : List Token). let o : Option (List Token) = Some ts in o) shape.0,
        (reads.forms, reads.spelled, reads.made),
      ),
    )

within : (n : ℕ) (lines : List TextLine) (s : Schedule) (b : Bool) → nat_lt 4194304 n ≡ b →
    (if b then Err refusal.TooLong else schedule_of_lines lines) ≡ Ok s →
    (n ≤ 4194304) × IsPlaced s × IsSpelled s (line_tokens lines)
within n lines s true b e = absurd cc
within n lines s false b e = let h = lines_found lines s e in (ltb-false 4194304 n b, h.0, h.1)

pub read_is_spelled : (text : List ℕ) (s : Schedule) → schedule_of text ≡ Ok s →
    (length text ≤ 4194304) × IsPlaced s × IsSpelled s (line_tokens (text_lines text))
read_is_spelled text s e = within (length text) (text_lines text) s (nat_lt 4194304 (length text)) refl e
