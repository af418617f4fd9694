-- A line that has the form of a shape, an item, a header line or a line of scripts is not lost (`lost_in` finds no
-- place).
use Rattle.std.proofs.Common.{◌≡◌, ℕ, ◌+◌, ◌<◌, Bool, true, false, List, [], ◌∷◌, Option, Some, None, option_map}
use Rattle.std.proofs.Common.{nat_eq, nat_lt, bytes_eq, codes, if◌then◌else◌, refl, ap, ◌∙◌, arith, inl, inr}
use Rattle.std.specs.Prelude.{is_some}
use Rattle.std.proofs.lemmas.Bool.{cases_Bool, lt-ltb}
use Rattle.std.proofs.lemmas.Bool.Decides.{nat_tests}
use Rattle.snap_semantics.specs.declared.text.Symbol.TheVariants as symbol
use Rattle.snap_semantics.specs.HeaderForms.{kind_of_keyword, kind_form, words_form, names_form, entry_form}
use Rattle.snap_semantics.specs.ListingForms.{is_line_number}
use Rattle.snap_semantics.specs.Rules.{number_at, identifier_at, keyword_at, end_at}
use Rattle.snap_semantics.specs.ScheduleForms.{ItemForm, Steps, Calls, Crashes, is_count, item_form, shape_form}
use Rattle.snap_semantics.specs.ScheduleForms.{spelled_shape}
use Rattle.snap_semantics.specs.Token.{Token, Identifier, Number, Sign}
use Rattle.snap_semantics.specs.declared.process.Op.TheVariants as op
use Rattle.snap_sched.specs.declared.script_forms.ScriptForm.{ScriptForm}
use Rattle.snap_sched.specs.ScriptForms.{as_call, call_form, is_turn, crash_at_form, script_form}
use Rattle.snap_sched.specs.Spelling.{IsSpelling}
use Rattle.snap_sched.proofs.Found.{item_found, shape_found}
use Rattle.snap_words.specs.Shape.{Counts, IsOneOf, IsShape, max_count}
use Rattle.snap_words.specs.declared.kind.KindTag.{KindTag}
use Rattle.snap_listing.proofs.HasTerms.{Holds, then_with, either}
use Rattle.snap_listing.proofs.SpelledTerms.{if_when, WordIs, word_is, NumberIs, number_is, KeywordIs}
use Rattle.snap_listing.proofs.SpelledTerms.{same_word, keyword_is, EndIs, end_is}
use Rattle.snap_explanation.specs.declared.parts.Part.{Part}
use Rattle.snap_explanation.specs.declared.parts.Part.TheVariants as part
use Rattle.snap_explanation.specs.declared.line_sorts.LineSort.{LineSort}
use Rattle.snap_explanation.specs.declared.line_sorts.LineSort.TheVariants as line
use Rattle.snap_explanation.specs.declared.line_sorts.Header.TheVariants as header
use Rattle.snap_explanation.specs.Grammar.{TokenStep, Takes, after, by_form, same_part, singles, values, written}
use Rattle.snap_explanation.specs.Grammar.{instructions, commands, class_forms, fronts, options}
use Rattle.snap_explanation.specs.Lost.{Wanted, lost, lost_at, lost_in, step, stepped}

-- parts that are wanted where `@` is no index
abbrev pub plain : List Part → Wanted
plain ps = record { parts = ps; places = false }

-- a token that is all of the first part
passes : (k : ℕ) (p : Part) (ps : List Part) (t : Token) (ts : List Token) → same_part p part.Range ≡ false →
    after false p t ≡ Takes [] → lost k (plain (p ∷ ps)) (t ∷ ts) ≡ lost (k + 1) (plain ps) ts
passes k p ps t ts f e =
    ap (λ (s : TokenStep). lost_at k (plain (p ∷ ps)) (λ more. lost (k + 1) more ts)
    (stepped (same_part p part.Range) ps (step false t ps) s)) e
    ∙ ap (λ (q : Bool). lost (k + 1) (record { parts = ps; places = q }) ts) f

-- a token of a set
taken_by : (p : Part) (t : Token) (b : Bool) → b ≡ true →
    by_form false p t (if b then (let none : List Part = [] in Some none) else None) ≡ Takes []
taken_by p t b e =
    ap (λ (c : Bool). by_form false p t (if c then (let none : List Part = [] in Some none) else None)) e

count_taken : (n : ℕ) → is_count n ≡ true → after false part.Count (Number n) ≡ Takes []
unfolding singles values written instructions commands class_forms fronts options
count_taken n e = taken_by part.Count (Number n) (is_count n) e

positive_taken : (n : ℕ) → nat_lt 0 n ≡ true → after false part.Positive (Number n) ≡ Takes []
unfolding singles values written instructions commands class_forms fronts options
positive_taken n e = taken_by part.Positive (Number n) (nat_lt 0 n) e

turn_taken : (n : ℕ) → is_turn n ≡ true → after false part.Turn (Number n) ≡ Takes []
unfolding singles values written instructions commands class_forms fronts options
turn_taken n e = taken_by part.Turn (Number n) (is_turn n) e

line_taken : (n : ℕ) → is_line_number n ≡ true → after false part.LineNumber (Number n) ≡ Takes []
unfolding singles values written instructions commands class_forms fronts options
line_taken n e = taken_by part.LineNumber (Number n) (is_line_number n) e

-- what is found tells that the line is not lost
abbrev pub NotLost : {A : Type 0} → LineSort → List Token → A → Type 0
NotLost sort ts x = lost_in sort ts ≡ None

pub told : {A P : Type 0} (o : Option A) → Holds (λ (x : A). P) o → is_some o ≡ true → P
told None h e = absurd cc
told (Some x) h e = h

found_holds : {A : Type 0} (P : A → Type 0) (o : Option A) → ((x : A) → o ≡ Some x → P x) → Holds P o
found_holds P None h = tt
found_holds P (Some x) h = h x refl

-- shapes
counted : (n : ℕ) → IsOneOf max_count n → is_count n ≡ true
counted n one = grind (arith, nat_tests)

shape_lost : (s : Counts) → IsShape s.n s.w → lost_in line.Shape (spelled_shape s) ≡ None
unfolding singles values written instructions commands class_forms fronts options
shape_lost s h =
    passes 1 part.Count (part.Count ∷ []) (Number s.n) (Number s.w ∷ []) refl (count_taken s.n (counted s.n h.0))
    ∙ passes 2 part.Count [] (Number s.w) [] refl (count_taken s.w (counted s.w h.1))

pub shape_goes : (ts : List Token) → Holds (NotLost line.Shape ts) (shape_form ts)
shape_goes ts =
    found_holds (NotLost {A = Counts} line.Shape ts) (shape_form ts) (λ s e.
    let h = shape_found ts s e in rw h.0 (shape_lost s h.1))

-- a form that is made of another one's
pub mapped : {A B : Type 0} (P : Type 0) (f : A → B) (o : Option A) → Holds (λ (x : A). P) o →
    Holds (λ (y : B). P) (option_map f o)
mapped P f None h = h
mapped P f (Some x) h = h

-- items
steps_lost : (i k : ℕ) → 0 < k → lost_in line.Item (Number i ∷ Sign symbol.Star ∷ Number k ∷ []) ≡ None
unfolding singles values written instructions commands class_forms fronts options
steps_lost i k some = passes 2 part.Positive [] (Number k) [] refl (positive_taken k (lt-ltb 0 k some))

-- what spells an item
item_lost : (ts : List Token) (f : ItemForm) → IsSpelling f ts → lost_in line.Item ts ≡ None
unfolding singles values written instructions commands class_forms fronts options
item_lost ts (Steps i count) h = elim h.1 [
  | inl short ↦ elim (cases_Bool (nat_eq count 1)) [
    | inl one ↦ rw (short, one) refl
    | inr more ↦ rw (short, more) (steps_lost i count h.0)
  ]
  | inr long ↦ rw long (steps_lost i count h.0)
]
item_lost ts (Calls i op.Scan) h = rw h refl
item_lost ts (Calls i (op.Update word value)) h = rw h refl
item_lost ts (Crashes i) h = rw h refl

pub item_goes : (ts : List Token) → Holds (NotLost line.Item ts) (item_form ts)
item_goes ts =
    found_holds (NotLost {A = ItemForm} line.Item ts) (item_form ts) (λ f e. item_lost ts f (item_found ts f e))

-- header lines
kind_lost : (w : List ℕ) →
    Holds (λ (k : KindTag). lost_in (line.Header header.Kind) (Identifier (codes "kind") ∷ Identifier w ∷ []) ≡ None)
    (kind_of_keyword w)
unfolding singles values written instructions commands class_forms fronts options
kind_lost w =
    let P = λ (k : KindTag). lost_in (line.Header header.Kind) (Identifier (codes "kind") ∷ Identifier w ∷ []) ≡ None in
    let L = λ (ts : List Token). lost_in (line.Header header.Kind) (Identifier (codes "kind") ∷ ts) in
    if_when P (bytes_eq w (codes "seq")) _ _ (λ e. ap L (same_word w (codes "seq") [] e))
    (if_when P (bytes_eq w (codes "bit")) _ _ (λ e. ap L (same_word w (codes "bit") [] e))
    (if_when P (bytes_eq w (codes "multi")) _ _ (λ e. ap L (same_word w (codes "multi") [] e)) tt))

pub kind_goes : (ts : List Token) → Holds (NotLost (line.Header header.Kind) ts) (kind_form ts)
unfolding kind_form
kind_goes ts =
    let P = NotLost {A = KindTag} (line.Header header.Kind) ts in
    then_with (KeywordIs (codes "kind") ts) P (keyword_at (codes "kind") ts) _ (keyword_is (codes "kind") ts) (λ a e.
    then_with (WordIs a) P (identifier_at a) _ (word_is a) (λ w f.
    then_with _ P (kind_of_keyword w.0) _ (kind_lost w.0) (λ k g.
    then_with (EndIs w.1) P (end_at w.1) _ (end_is w.1) (λ z h. rw (e, f, h) g))))

-- identifiers to the end of the line
words_go : (k : ℕ) (ts : List Token) →
    Holds (λ (ws : List (List ℕ)). lost k (plain (part.Names ∷ [])) ts ≡ None) (words_form ts)
unfolding singles values written instructions commands class_forms fronts options
words_go k [] = refl
words_go k (Identifier w ∷ ts) =
    then_with (λ (ws : List (List ℕ)). lost (k + 1) (plain (part.Names ∷ [])) ts ≡ None)
    (λ (ws : List (List ℕ)). lost k (plain (part.Names ∷ [])) (Identifier w ∷ ts) ≡ None) (words_form ts) _
    (words_go (k + 1) ts) (λ ws h. h)
words_go k _ = tt

pub holds_more : {A : Type 0} (Q P : A → Type 0) (o : Option A) → Holds Q o → ((x : A) → Q x → P x) → Holds P o
holds_more Q P None h f = tt
holds_more Q P (Some x) h f = f x h

-- a header line whose word is taken is its names
pub names_by : (p : Part) (x : List ℕ) →
    ((ts : List Token) → lost 0 (plain (p ∷ part.Names ∷ [])) (Identifier x ∷ ts) ≡ lost 1 (plain (part.Names ∷ [])) ts)
    → (ts : List Token) →
    Holds (λ (ws : List (List ℕ)). lost 0 (plain (p ∷ part.Names ∷ [])) ts ≡ None) (names_form x ts)
unfolding names_form
names_by p x first ts =
    let P = λ (ws : List (List ℕ)). lost 0 (plain (p ∷ part.Names ∷ [])) ts ≡ None in
    then_with (KeywordIs x ts) P (keyword_at x ts) _ (keyword_is x ts) (λ a e.
    holds_more (λ (ws : List (List ℕ)). lost 1 (plain (part.Names ∷ [])) a ≡ None) P (words_form a) (words_go 1 a)
    (λ ws h. rw e (first a ∙ h)))

line_lost : (k : ℕ) → is_line_number k ≡ true → lost 1 (plain (part.LineNumber ∷ [])) (Number k ∷ []) ≡ None
line_lost k e = passes 1 part.LineNumber [] (Number k) [] refl (line_taken k e)

-- a header line whose word is taken is the number of its line
pub entry_by : (p : Part) (x : List ℕ) →
    ((ts : List Token) → lost 0 (plain (p ∷ part.LineNumber ∷ [])) (Identifier x ∷ ts)
    ≡ lost 1 (plain (part.LineNumber ∷ [])) ts)
    → (ts : List Token) →
    Holds (λ (k : ℕ). lost 0 (plain (p ∷ part.LineNumber ∷ [])) ts ≡ None) (entry_form x ts)
unfolding entry_form
entry_by p x first ts =
    let P = λ (k : ℕ). lost 0 (plain (p ∷ part.LineNumber ∷ [])) ts ≡ None in
    then_with (KeywordIs x ts) P (keyword_at x ts) _ (keyword_is x ts) (λ a e.
    then_with (NumberIs a) P (number_at a) _ (number_is a) (λ k f.
    then_with (EndIs k.1) P (end_at k.1) _ (end_is k.1) (λ z h.
    if_when P (is_line_number k.0) _ _ (λ t. rw (e, f, h) (first (Number k.0 ∷ []) ∙ line_lost k.0 t)) tt)))

-- scripts
call_goes : (ts : List Token) (f : ItemForm) → IsSpelling f ts →
    Holds (NotLost {A = ScriptForm} line.Script ts) (as_call f)
unfolding singles values written instructions commands class_forms fronts options
call_goes ts (Steps i count) h = tt
call_goes ts (Calls i op.Scan) h = rw h refl
call_goes ts (Calls i (op.Update word value)) h = rw h refl
call_goes ts (Crashes i) h = tt

turn_lost : (i k : ℕ) → is_turn k ≡ true →
    lost_in line.Script (Number i ∷ Identifier (codes "crash") ∷ Number k ∷ []) ≡ None
unfolding singles values written instructions commands class_forms fronts options
turn_lost i k e = passes 2 part.Turn [] (Number k) [] refl (turn_taken k e)

pub script_goes : (ts : List Token) → Holds (NotLost {A = ScriptForm} line.Script ts) (script_form ts)
unfolding script_form call_form crash_at_form
script_goes ts =
    let P = NotLost {A = ScriptForm} line.Script ts in
    either P _ _
    (then_with (λ (f : ItemForm). IsSpelling f ts) P (item_form ts) _
    (found_holds (λ (f : ItemForm). IsSpelling f ts) (item_form ts) (item_found ts)) (call_goes ts))
    (then_with (NumberIs ts) P (number_at ts) _ (number_is ts) (λ i e.
    then_with (KeywordIs (codes "crash") i.1) P (keyword_at (codes "crash") i.1) _
    (keyword_is (codes "crash") i.1) (λ a f.
    then_with (NumberIs a) P (number_at a) _ (number_is a) (λ k g.
    then_with (EndIs k.1) P (end_at k.1) _ (end_is k.1) (λ z h.
    if_when P (is_turn k.0) _ _ (λ t. rw (e, f, g, h) (turn_lost i.0 k.0 t)) tt)))))
