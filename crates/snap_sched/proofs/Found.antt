-- A line that is read as a form of a schedule, or as its shape, spells it (`IsSpelling`).
use Rattle.std.proofs.Common.{◌≡◌, ℕ, ◌<◌, Bool, true, false, ◌&&◌, List, [], ◌∷◌, Option, Some, None, nat_le, nat_lt}
use Rattle.std.proofs.Common.{codes, if◌then◌else◌, refl, sym, ap, ◌∙◌, arith, subst, ◌⊎◌, inl, inr}
use Rattle.std.proofs.lemmas.Bool.{leb-true, ltb-true, and_parts}
use Rattle.snap_words.specs.Shape.{Counts, IsOneOf, IsShape, max_count}
use Rattle.snap_semantics.specs.declared.process.Op.TheVariants as op
use Rattle.snap_semantics.specs.declared.text.Symbol.{Symbol}
use Rattle.snap_semantics.specs.declared.text.Symbol.TheVariants as symbol
use Rattle.snap_semantics.specs.Rules.{◌>>=◌, or_else, Found, number_at, keyword_at, symbol_at, end_at}
use Rattle.snap_semantics.specs.ScheduleForms.{ItemForm, Steps, Calls, Crashes, spelled_shape, is_count, shape_form}
use Rattle.snap_semantics.specs.ScheduleForms.{step_form, steps_form, scan_form, update_form, crash_form, item_form}
use Rattle.snap_semantics.specs.Token.{Token, Identifier, Number, Sign, same_symbol}
use Rattle.snap_text.proofs.TokensFound.{bind_found, end_found, keyword_found, number_found}
use Rattle.snap_sched.specs.Spelling.{IsSpelling}

star_by : (m : Symbol) (ts us : List Token) →
    (let r : Option (List Token) = if same_symbol m symbol.Star then Some ts else None in r) ≡ Some us →
    Sign m ∷ ts ≡ Sign symbol.Star ∷ us
star_by symbol.Star ts us e = let q : ts ≡ us = cc in cc
star_by _ ts us e = absurd cc

pub star_found : (ts us : List Token) → symbol_at symbol.Star ts ≡ Some us → ts ≡ Sign symbol.Star ∷ us
star_found (Sign m ∷ ts) us e = star_by m ts us e
star_found _ us e = absurd cc

count_is : (k : ℕ) → is_count k ≡ true → IsOneOf max_count k
count_is k e =
    let p = and_parts (nat_le 1 k) (nat_le k max_count) e in
    let low = leb-true 1 k p.0 in
    let high = leb-true k max_count p.1 in
    (omega (arith, low), high)

shape_if : (n w : ℕ) (s : Counts) (b : Bool) → (is_count n && is_count w) ≡ b →
    (let r : Option Counts = if b then Some (record { n = n; w = w }) else None in r) ≡ Some s →
    (s ≡ record { n = n; w = w }) × IsShape n w
shape_if n w s true b e = let p = and_parts (is_count n) (is_count w) b in (cc, (count_is n p.0, count_is w p.1))
shape_if n w s false b e = absurd cc

pub shape_found : (ts : List Token) (s : Counts) → shape_form ts ≡ Some s → (ts ≡ spelled_shape s) × IsShape s.n s.w
unfolding shape_form
shape_found ts s e =
    let a = bind_found (keyword_at (codes "shape") ts) _ s e in
    let n = bind_found (number_at a.0) _ s a.2 in
    let w = bind_found (number_at n.0.1) _ s n.2 in
    let z = bind_found (end_at w.0.1) _ s w.2 in
    let h = shape_if n.0.0 w.0.0 s (is_count n.0.0 && is_count w.0.0) refl z.2 in (
      keyword_found (codes "shape") ts a.0 a.1
          ∙ ap (λ (t : List Token). Identifier (codes "shape") ∷ t) (number_found a.0 n.0 n.1)
          ∙ ap (λ (t : List Token). Identifier (codes "shape") ∷ Number n.0.0 ∷ t) (number_found n.0.1 w.0 w.1)
          ∙ ap (λ (t : List Token). Identifier (codes "shape") ∷ Number n.0.0 ∷ Number w.0.0 ∷ t)
          (end_found w.0.1 z.0 z.1)
          ∙ ap spelled_shape (sym h.0),
      subst (λ (c : Counts). IsShape c.n c.w) (sym h.0) h.1,
    )

some_is : (x f : ItemForm) → (let r : Option ItemForm = Some x in r) ≡ Some f → x ≡ f
some_is x f e = cc

is_spelling : (ts : List Token) (x f : ItemForm) → IsSpelling x ts → x ≡ f → IsSpelling f ts
is_spelling ts x f h e = subst (λ (y : ItemForm). IsSpelling y ts) e h

step_found : (ts : List Token) (f : ItemForm) → step_form ts ≡ Some f → IsSpelling f ts
unfolding step_form
step_found ts f e =
    let i = bind_found (number_at ts) _ f e in
    let z = bind_found (end_at i.0.1) _ f i.2 in
    is_spelling ts (Steps i.0.0 1) f
    (omega arith, inl (number_found ts i.0 i.1 ∙ ap (λ (t : List Token). Number i.0.0 ∷ t) (end_found i.0.1 z.0 z.1)))
    (some_is (Steps i.0.0 1) f z.2)

steps_if : (i count : ℕ) (f : ItemForm) (b : Bool) → nat_lt 0 count ≡ b →
    (let r : Option ItemForm = if b then Some (Steps i count) else None in r) ≡ Some f →
    (Steps i count ≡ f) × (0 < count)
steps_if i count f true b e = (some_is (Steps i count) f e, ltb-true 0 count b)
steps_if i count f false b e = absurd cc

steps_found : (ts : List Token) (f : ItemForm) → steps_form ts ≡ Some f → IsSpelling f ts
unfolding steps_form
steps_found ts f e =
    let i = bind_found (number_at ts) _ f e in
    let m = bind_found (symbol_at symbol.Star i.0.1) _ f i.2 in
    let k = bind_found (number_at m.0) _ f m.2 in
    let z = bind_found (end_at k.0.1) _ f k.2 in
    let h = steps_if i.0.0 k.0.0 f (nat_lt 0 k.0.0) refl z.2 in
    is_spelling ts (Steps i.0.0 k.0.0) f (
      h.1,
      inr (number_found ts i.0 i.1
          ∙ ap (λ (t : List Token). Number i.0.0 ∷ t) (star_found i.0.1 m.0 m.1)
          ∙ ap (λ (t : List Token). Number i.0.0 ∷ Sign symbol.Star ∷ t) (number_found m.0 k.0 k.1)
          ∙ ap (λ (t : List Token). Number i.0.0 ∷ Sign symbol.Star ∷ Number k.0.0 ∷ t) (end_found k.0.1 z.0 z.1)),
    )
    h.0

scan_found : (ts : List Token) (f : ItemForm) → scan_form ts ≡ Some f → IsSpelling f ts
unfolding scan_form
scan_found ts f e =
    let i = bind_found (number_at ts) _ f e in
    let a = bind_found (keyword_at (codes "scan") i.0.1) _ f i.2 in
    let z = bind_found (end_at a.0) _ f a.2 in
    is_spelling ts (Calls i.0.0 op.Scan) f
    (number_found ts i.0 i.1
    ∙ ap (λ (t : List Token). Number i.0.0 ∷ t) (keyword_found (codes "scan") i.0.1 a.0 a.1)
    ∙ ap (λ (t : List Token). Number i.0.0 ∷ Identifier (codes "scan") ∷ t) (end_found a.0 z.0 z.1))
    (some_is (Calls i.0.0 op.Scan) f z.2)

update_found : (ts : List Token) (f : ItemForm) → update_form ts ≡ Some f → IsSpelling f ts
unfolding update_form
update_found ts f e =
    let i = bind_found (number_at ts) _ f e in
    let a = bind_found (keyword_at (codes "update") i.0.1) _ f i.2 in
    let k = bind_found (number_at a.0) _ f a.2 in
    let x = bind_found (number_at k.0.1) _ f k.2 in
    let z = bind_found (end_at x.0.1) _ f x.2 in
    is_spelling ts (Calls i.0.0 (op.Update k.0.0 x.0.0)) f
    (number_found ts i.0 i.1
    ∙ ap (λ (t : List Token). Number i.0.0 ∷ t) (keyword_found (codes "update") i.0.1 a.0 a.1)
    ∙ ap (λ (t : List Token). Number i.0.0 ∷ Identifier (codes "update") ∷ t) (number_found a.0 k.0 k.1)
    ∙ ap (λ (t : List Token). Number i.0.0 ∷ Identifier (codes "update") ∷ Number k.0.0 ∷ t)
    (number_found k.0.1 x.0 x.1)
    ∙ ap (λ (t : List Token). Number i.0.0 ∷ Identifier (codes "update") ∷ Number k.0.0 ∷ Number x.0.0 ∷ t)
    (end_found x.0.1 z.0 z.1))
    (some_is (Calls i.0.0 (op.Update k.0.0 x.0.0)) f z.2)

crash_found : (ts : List Token) (f : ItemForm) → crash_form ts ≡ Some f → IsSpelling f ts
unfolding crash_form
crash_found ts f e =
    let i = bind_found (number_at ts) _ f e in
    let a = bind_found (keyword_at (codes "crash") i.0.1) _ f i.2 in
    let z = bind_found (end_at a.0) _ f a.2 in
    is_spelling ts (Crashes i.0.0) f
    (number_found ts i.0 i.1
    ∙ ap (λ (t : List Token). Number i.0.0 ∷ t) (keyword_found (codes "crash") i.0.1 a.0 a.1)
    ∙ ap (λ (t : List Token). Number i.0.0 ∷ Identifier (codes "crash") ∷ t) (end_found a.0 z.0 z.1))
    (some_is (Crashes i.0.0) f z.2)

first_found : (o p : Option ItemForm) (f : ItemForm) → or_else o p ≡ Some f → (o ≡ Some f) ⊎ (p ≡ Some f)
first_found None p f e = inr e
first_found (Some x) p f e = inl e

item_by4 : (ts : List Token) (f : ItemForm) → (update_form ts ≡ Some f) ⊎ (crash_form ts ≡ Some f) → IsSpelling f ts
item_by4 ts f (inl e) = update_found ts f e
item_by4 ts f (inr e) = crash_found ts f e

item_by3 : (ts : List Token) (f : ItemForm) →
    (scan_form ts ≡ Some f) ⊎ (or_else (update_form ts) (crash_form ts) ≡ Some f) → IsSpelling f ts
item_by3 ts f (inl e) = scan_found ts f e
item_by3 ts f (inr e) = item_by4 ts f (first_found (update_form ts) (crash_form ts) f e)

item_by2 : (ts : List Token) (f : ItemForm) → (steps_form ts ≡ Some f)
    ⊎ (or_else (scan_form ts) (or_else (update_form ts) (crash_form ts)) ≡ Some f) → IsSpelling f ts
item_by2 ts f (inl e) = steps_found ts f e
item_by2 ts f (inr e) = item_by3 ts f (first_found (scan_form ts) (or_else (update_form ts) (crash_form ts)) f e)

item_by1 : (ts : List Token) (f : ItemForm) →
    (step_form ts ≡ Some f)
    ⊎ (or_else (steps_form ts) (or_else (scan_form ts) (or_else (update_form ts) (crash_form ts))) ≡ Some f) →
    IsSpelling f ts
item_by1 ts f (inl e) = step_found ts f e
item_by1 ts f (inr e) =
    item_by2 ts f (first_found (steps_form ts) (or_else (scan_form ts) (or_else (update_form ts) (crash_form ts))) f e)

pub item_found : (ts : List Token) (f : ItemForm) → item_form ts ≡ Some f → IsSpelling f ts
unfolding item_form
item_found ts f e =
    item_by1 ts f (first_found (step_form ts)
    (or_else (steps_form ts) (or_else (scan_form ts) (or_else (update_form ts) (crash_form ts)))) f e)
