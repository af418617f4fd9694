-- The items of a schedule are read line after line: a line adds its items, a refused line ends the reading, and at
-- the end all are there.
use Rattle.std.proofs.Common.{◌≡◌, ℕ, zero, suc, ◌+◌, ◌-◌, ◌≤◌, Bool, true, false, not, ◌&&◌, List, [], ◌∷◌, ◌++◌}
use Rattle.std.proofs.Common.{length, replicate, Option, Some, None, Result, Ok, Err, nat_le, nat_lt, if◌then◌else◌}
use Rattle.std.proofs.Common.{refl, sym, ap, ◌∙◌, arith, append_assoc, append-nil, subst}
use Rattle.std.proofs.lemmas.Bool.{leb-true, ltb-false, and_parts}
use Rattle.std.proofs.lemmas.List.{length-append, length-replicate}
use Rattle.std.specs.List.{AllByRecursion}
use Rattle.snap_words.specs.Shape.{IsOneOf}
use Rattle.snap_semantics.specs.declared.process.Item.{Item}
use Rattle.snap_semantics.specs.declared.process.Item.TheVariants as item
use Rattle.snap_semantics.specs.declared.refusal.ScheduleRefusal.{ScheduleRefusal}
use Rattle.snap_semantics.specs.declared.refusal.ScheduleRefusal.TheVariants as refusal
use Rattle.std.specs.Prelude.{IsErr, IsErrAnd, option_map}
use Rattle.snap_semantics.specs.Answers.{◌>>=◌, Answers}
use Rattle.snap_semantics.specs.declared.fault.Fault.{Fault}
use Rattle.snap_semantics.specs.declared.fault.Fault.TheVariants.{Memory, Refused}
use Rattle.snap_semantics.specs.Rules.{form_or}
use Rattle.snap_semantics.specs.Schedule.{admitted, items_of, form_process, form_count, form_items}
use Rattle.snap_semantics.specs.declared.text.Symbol.TheVariants as symbol
use Rattle.snap_semantics.specs.ScheduleForms.{ItemForm, Steps, Calls, Crashes, step_form, steps_form, scan_form}
use Rattle.snap_semantics.specs.ScheduleForms.{update_form, crash_form, item_form}
use Rattle.snap_semantics.specs.Table.{who}
use Rattle.snap_semantics.specs.Token.{TextLine, Number, Sign}
use Rattle.snap_sched.specs.declared.forms.ItemForm as code
use Rattle.snap_sched.specs.ReaderSteps.{items_with, line_form, next_form, prefixed, view_form}

-- the rule for the rest, once the first line is read
abbrev pub rest_of : ℕ → ℕ → List TextLine → ItemForm → Result (List Item) ScheduleRefusal
rest_of n left lines f = items_of n (left - form_count f) lines >>= λ items. Ok (form_items f ++ items)

pub bind_assoc : {A B C : Type 0} (r : Result A ScheduleRefusal) (f : A → Result B ScheduleRefusal)
    (g : B → Result C ScheduleRefusal) → (r >>= λ x. f x >>= g) ≡ ((r >>= f) >>= g)
bind_assoc (Ok x) f g = refl
bind_assoc (Err e) f g = refl

pub first_line : (n left : ℕ) (line : TextLine) (lines : List TextLine) →
    items_of n left (line ∷ lines) ≡ (line_form n left line >>= rest_of n left lines)
first_line n left line lines =
    bind_assoc (form_or (refusal.BadItem line.number) item_form line.tokens)
    (admitted n left line.number) (rest_of n left lines)

pub length_items : (f : ItemForm) → length (form_items f) ≡ form_count f
length_items (Steps i count) = length-replicate count (item.Step i)
length_items (Calls i op) = refl
length_items (Crashes i) = refl

prefixed_more : (xs ys : List Item) (r : Result (List Item) ScheduleRefusal) →
    prefixed (xs ++ ys) r ≡ prefixed xs (r >>= λ items. Ok (ys ++ items))
prefixed_more xs ys (Ok zs) =
    ap (λ (items : List Item). let r : Result (List Item) ScheduleRefusal = Ok items in r) (append_assoc xs ys zs)
prefixed_more xs ys (Err e) = refl

-- a line that is read
pub turn : (n : ℕ) (lines rest : List TextLine) (line : TextLine) (items more : List Item) (f : ItemForm) →
    lines ≡ line ∷ rest → line_form n (1000000 - length items) line ≡ Ok f → more ≡ items ++ form_items f →
    prefixed more (items_of n (1000000 - length more) rest) ≡ prefixed items (items_of n (1000000 - length items) lines)
turn n lines rest line items more f is found added =
    let longer : length more ≡ length items + form_count f =
    ap length added ∙ length-append items (form_items f) ∙ ap (λ (k : ℕ). length items + k) (length_items f) in
    let left : 1000000 - length more ≡ 1000000 - length items - form_count f = omega (arith, longer) in
    ap (λ (k : ℕ). prefixed more (items_of n k rest)) left
    ∙ ap (λ (xs : List Item). prefixed xs (items_of n (1000000 - length items - form_count f) rest)) added
    ∙ prefixed_more items (form_items f) (items_of n (1000000 - length items - form_count f) rest)
    ∙ ap (λ (r : Result ItemForm ScheduleRefusal). prefixed items (r >>= rest_of n (1000000 - length items) rest))
    (sym found)
    ∙ ap (prefixed items) (sym (first_line n (1000000 - length items) line rest))
    ∙ ap (λ (ls : List TextLine). prefixed items (items_of n (1000000 - length items) ls)) (sym is)

-- a line that is refused
pub stop : (n : ℕ) (lines rest : List TextLine) (line : TextLine) (items : List Item) (e : ScheduleRefusal) →
    lines ≡ line ∷ rest → line_form n (1000000 - length items) line ≡ Err e →
    prefixed items (items_of n (1000000 - length items) lines) ≡ Err e
stop n lines rest line items e is found =
    ap (λ (ls : List TextLine). prefixed items (items_of n (1000000 - length items) ls)) is
    ∙ ap (prefixed items) (first_line n (1000000 - length items) line rest)
    ∙ ap (λ (r : Result ItemForm ScheduleRefusal). prefixed items (r >>= rest_of n (1000000 - length items) rest)) found

-- no line is left
pub whole : (n : ℕ) (lines : List TextLine) (items : List Item) → lines ≡ [] →
    prefixed items (items_of n (1000000 - length items) lines) ≡ Ok items
whole n lines items none =
    ap (λ (ls : List TextLine). prefixed items (items_of n (1000000 - length items) ls)) none
    ∙ ap (λ (xs : List Item). let r : Result (List Item) ScheduleRefusal = Ok xs in r) (append-nil items)

-- what was admitted
abbrev pub IsAdmitted : ℕ → ℕ → ItemForm → Type 0
IsAdmitted n left f = IsOneOf n (form_process f) × (form_count f ≤ left)

admitted_by : (n left line : ℕ) (form f : ItemForm) (there many : Bool) →
    (nat_le 1 (form_process form) && nat_le (form_process form) n) ≡ there → nat_lt left (form_count form) ≡ many →
    (let r : Result ItemForm ScheduleRefusal = if not there then Err (refusal.NoSuchProcess line)
    else if many then Err (refusal.TooManyItems line) else Ok form in r) ≡ Ok f → IsAdmitted n left f
admitted_by n left line form f false many e d h = absurd cc
admitted_by n left line form f true true e d h = absurd cc
admitted_by n left line form f true false e d h =
    let parts = and_parts (nat_le 1 (form_process form)) (nat_le (form_process form) n) e in
    let some = leb-true 1 (form_process form) parts.0 in
    let within = leb-true (form_process form) n parts.1 in
    let few = ltb-false left (form_count form) d in
    let same : form ≡ f = cc in
    subst (λ (x : ItemForm). IsAdmitted n left x) same ((omega (arith, some), within), few)

admitted_same : (line : ℕ) (form f : ItemForm) (there many : Bool) →
    (let r : Result ItemForm ScheduleRefusal = if not there then Err (refusal.NoSuchProcess line)
    else if many then Err (refusal.TooManyItems line) else Ok form in r) ≡ Ok f → form ≡ f
admitted_same line form f false many h = absurd cc
admitted_same line form f true true h = absurd cc
admitted_same line form f true false h = cc

pub admitted_is : (n left line : ℕ) (form f : ItemForm) → admitted n left line form ≡ Ok f → form ≡ f
admitted_is n left line form f e =
    admitted_same line form f (nat_le 1 (form_process form) && nat_le (form_process form) n)
    (nat_lt left (form_count form)) e

pub is_admitted : (n left line : ℕ) (form f : ItemForm) → admitted n left line form ≡ Ok f → IsAdmitted n left f
is_admitted n left line form f e =
    admitted_by n left line form f (nat_le 1 (form_process form) && nat_le (form_process form) n)
    (nat_lt left (form_count form)) refl refl e

line_admitted_by : (n left line : ℕ) (r : Result ItemForm ScheduleRefusal) (f : ItemForm) →
    (r >>= admitted n left line) ≡ Ok f → IsAdmitted n left f
line_admitted_by n left line (Ok form) f e = is_admitted n left line form f e
line_admitted_by n left line (Err d) f e = absurd cc

pub line_admitted : (n left : ℕ) (line : TextLine) (f : ItemForm) → line_form n left line ≡ Ok f → IsAdmitted n left f
line_admitted n left line f e =
    line_admitted_by n left line.number (form_or (refusal.BadItem line.number) item_form line.tokens) f e

-- what holds of the process of a form holds of those of its items
pub all_more : (P : ℕ → Type 0) (xs ys : List Item) → AllByRecursion (λ x. P (who x)) xs →
    AllByRecursion (λ x. P (who x)) ys → AllByRecursion (λ x. P (who x)) (xs ++ ys)
all_more P [] ys h g = g
all_more P (x ∷ xs) ys h g = (h.0, all_more P xs ys h.1 g)

all_steps : (P : ℕ → Type 0) (count i : ℕ) → P i → AllByRecursion (λ x. P (who x)) (replicate count (item.Step i))
all_steps P zero i h = tt
all_steps P (suc count) i h = (h, all_steps P count i h)

pub all_form : (P : ℕ → Type 0) (f : ItemForm) → P (form_process f) → AllByRecursion (λ x. P (who x)) (form_items f)
all_form P (Steps i count) h = all_steps P count i h
all_form P (Calls i op) h = (h, tt)
all_form P (Crashes i) h = (h, tt)

-- the items are of processes that are there, and few
pub kept : (n : ℕ) (line : TextLine) (items more : List Item) (f : ItemForm) →
    line_form n (1000000 - length items) line ≡ Ok f → more ≡ items ++ form_items f →
    length items ≤ 1000000 → AllByRecursion (λ x. IsOneOf n (who x)) items →
    (length more ≤ 1000000) × AllByRecursion (λ x. IsOneOf n (who x)) more
kept n line items more f found added few h =
    let ok = line_admitted n (1000000 - length items) line f found in
    let longer : length more ≡ length items + form_count f =
    ap length added ∙ length-append items (form_items f) ∙ ap (λ (k : ℕ). length items + k) (length_items f) in (
      omega (arith, ok.1, longer, few),
      subst (λ (xs : List Item). AllByRecursion (λ x. IsOneOf n (who x)) xs) (sym added)
          (all_more (λ i. IsOneOf n i) items (form_items f) h (all_form (λ i. IsOneOf n i) f ok.0)),
    )

-- the line of which the next form comes
pub record Next (n left : ℕ) (lines rest : List TextLine) (f : ItemForm) : Type 0 where
  pub line : TextLine
  pub is : lines ≡ line ∷ rest
  pub form : line_form n left line ≡ Ok f

-- what was found: a form and the lines behind it, or that no line is left
abbrev Found : Type 0
Found = Result (Option (ItemForm × List TextLine)) ScheduleRefusal

some_found : (f g : ItemForm) (xs ys : List TextLine) → (let r : Found = Ok (Some (f, xs)) in r) ≡ Ok (Some (g, ys)) →
    (let p : ItemForm × List TextLine = (f, xs) in p) ≡ (g, ys)
some_found f g xs ys e = cc

next_by : (n left : ℕ) (line : TextLine) (lines rest : List TextLine)
    (r : Result ItemForm ScheduleRefusal) (f : ItemForm) → line_form n left line ≡ r →
    (let x : Found = r >>= λ form. Ok (Some (form, lines)) in x) ≡ Ok (Some (f, rest)) →
    Next n left (line ∷ lines) rest f
next_by n left line lines rest (Ok g) f e h =
    let same = some_found g f lines rest h in
    record {
      line = line;
      is = ap (λ (p : ItemForm × List TextLine). line ∷ p.1) same;
      form = e ∙ ap (λ (p : ItemForm × List TextLine). let r : Result ItemForm ScheduleRefusal = Ok p.0 in r) same;
    }
next_by n left line lines rest (Err d) f e h = absurd cc

pub next_found : (n left : ℕ) (lines rest : List TextLine) (f : ItemForm) →
    next_form n left lines ≡ Ok (Some (f, rest)) → Next n left lines rest f
next_found n left [] rest f h = absurd cc
next_found n left (line ∷ lines) rest f h = next_by n left line lines rest (line_form n left line) f refl h

none_by : (lines : List TextLine) (r : Result ItemForm ScheduleRefusal) →
    (let x : Found = r >>= λ form. Ok (Some (form, lines)) in x) ≡ Ok None → ⊥
none_by lines (Ok f) e = cc
none_by lines (Err d) e = cc

-- no line is left where there is no next form
pub next_none : (n left : ℕ) (lines : List TextLine) → next_form n left lines ≡ Ok None → lines ≡ []
next_none n left [] e = refl
next_none n left (line ∷ lines) e = absurd (none_by lines (line_form n left line) e)

refused_by : (n left : ℕ) (lines : List TextLine) (r : Result ItemForm ScheduleRefusal) (d : ScheduleRefusal) →
    (let x : Found = r >>= λ form. Ok (Some (form, lines)) in x) ≡ Err d → (r >>= rest_of n left lines) ≡ Err d
refused_by n left lines (Ok f) d e = absurd cc
refused_by n left lines (Err c) d e = cc

pub no_steps : (i : ℕ) → item_form (Number i ∷ Sign symbol.Star ∷ Number 0 ∷ []) ≡ None
unfolding item_form step_form steps_form scan_form update_form crash_form
no_steps i = refl

-- the line of a form is read: what is read and what is left come to the same, and the items are still of processes that
-- are there, and few
pub taken : (n k : ℕ) (lines rest : List TextLine) (items more : List Item) (found : Option code.ItemForm)
    (form : code.ItemForm) → k ≡ length items →
    next_form n (1000000 - k) lines ≡ Ok (option_map (λ f. (view_form f, rest)) found) → found ≡ Some form →
    more ≡ items ++ form_items (view_form form) → length items ≤ 1000000 →
    AllByRecursion (λ x. IsOneOf n (who x)) items →
    (items_with n more rest ≡ items_with n items lines)
    × (length more ≤ 1000000) × AllByRecursion (λ x. IsOneOf n (who x)) more
taken n k lines rest items more found form all next is added few h =
    let f = view_form form in
    let read : next_form n (1000000 - length items) lines ≡ Ok (Some (f, rest)) =
    ap (λ m. next_form n (1000000 - m) lines) (sym all) ∙ next
    ∙ ap (λ o. Ok (option_map (λ x. (view_form x, rest)) o)) is in
    let first = next_found n (1000000 - length items) lines rest f read in
    let keeps = kept n first.line items more f first.form added few h in
    (turn n lines rest first.line items more f first.is first.form added, keeps.0, keeps.1)

-- a refusal that `?` passes on
pub passed_on : {X Y : Type 0} (view : X → Y) (answer : Result X (Fault ScheduleRefusal)) (why : Fault ScheduleRefusal)
    (r : Result Y ScheduleRefusal) → IsErr answer × IsErrAnd answer (λ e. e ≡ why) →
    ((e : ScheduleRefusal) → why ≡ Refused e → r ≡ Err e) → Answers view answer r
passed_on view (Ok x) why r from refused = absurd from.1
passed_on view (Err Memory) why r from refused = tt
passed_on view (Err (Refused e)) why r from refused = refused e (sym from.1)
