-- Line forms of a schedule of which none is empty and no two neighbours are steps of one process (`AreApart`): they
-- are the forms of their items.
use Rattle.std.proofs.Common.{◌≡◌, ℕ, zero, suc, ◌+◌, ◌<◌, ◌≤◌, Bool, true, false, not, List, [], ◌∷◌, ◌++◌, length}
use Rattle.std.proofs.Common.{replicate, set, Option, Some, None, nat_eq, if◌then◌else◌, refl, sym, ap, ◌∙◌, arith}
use Rattle.std.proofs.Common.{append_assoc, append-nil}
use Rattle.std.proofs.lemmas.Bool.{eq-eqb, eqb-true}
use Rattle.std.proofs.lemmas.List.{replicate-append-replicate, length-replicate, length-append}
use Rattle.std.specs.List.{flat_map}
use Rattle.snap_semantics.specs.declared.process.Item.{Item}
use Rattle.snap_semantics.specs.declared.process.Item.TheVariants as item
use Rattle.snap_semantics.specs.declared.process.Op.{Op}
use Rattle.snap_semantics.specs.Schedule.{form_count, form_items}
use Rattle.snap_semantics.specs.ScheduleForms.{ItemForm, Steps, Calls, Crashes}
use Rattle.snap_semantics.specs.ScheduleText.{step_onto, item_onto, forms_of}
use Rattle.snap_sched.specs.Segments.{steps_of, last_count}

-- whether both are steps of one process
abbrev pub joins : ItemForm → ItemForm → Bool
joins (Steps i a) (Steps k b) = nat_eq i k
joins _ _ = false

-- whether a form does not take in the next one
abbrev pub stands : ItemForm → List ItemForm → Bool
stands f [] = true
stands f (g ∷ gs) = not (joins f g)

-- none is empty, and none takes in the next one
abbrev pub AreApart : List ItemForm → Type 0
AreApart [] = Unit {0}
AreApart (f ∷ fs) = (0 < form_count f) × (stands f fs ≡ true) × AreApart fs

stands_same : (i a b : ℕ) (fs : List ItemForm) → stands (Steps i a) fs ≡ stands (Steps i b) fs
stands_same i a b (Steps k c ∷ fs) = refl
stands_same i a b _ = refl

call_stands : (i : ℕ) (op : Op) (fs : List ItemForm) → stands (Calls i op) fs ≡ true
call_stands i op [] = refl
call_stands i op (f ∷ fs) = refl

crash_stands : (i : ℕ) (fs : List ItemForm) → stands (Crashes i) fs ≡ true
crash_stands i [] = refl
crash_stands i (f ∷ fs) = refl

step_apart_by : (i k a : ℕ) (fs : List ItemForm) (v : Bool) → nat_eq i k ≡ v → AreApart (Steps k a ∷ fs) →
    AreApart (if v then Steps k (suc a) ∷ fs else Steps i 1 ∷ Steps k a ∷ fs)
step_apart_by i k a fs true e h = (omega arith, stands_same k (suc a) a fs ∙ h.1, h.2)
step_apart_by i k a fs false e h = (omega arith, ap not e, h)

step_apart : (i : ℕ) (fs : List ItemForm) → AreApart fs → AreApart (step_onto i fs)
step_apart i [] h = (omega arith, refl, tt)
step_apart i (Steps k a ∷ fs) h = step_apart_by i k a fs (nat_eq i k) refl h
step_apart i (Calls k op ∷ fs) h = (omega arith, refl, h)
step_apart i (Crashes k ∷ fs) h = (omega arith, refl, h)

item_apart : (x : Item) (fs : List ItemForm) → AreApart fs → AreApart (item_onto x fs)
item_apart (item.Step i) fs h = step_apart i fs h
item_apart (item.Call i op) fs h = (omega arith, call_stands i op fs, h)
item_apart (item.Crash i) fs h = (omega arith, crash_stands i fs, h)

-- the greatest segments are apart
pub forms_apart : (xs : List Item) → AreApart (forms_of xs)
forms_apart [] = tt
forms_apart (x ∷ xs) = item_apart x (forms_of xs) (forms_apart xs)

one_step_by : (i k a : ℕ) (fs : List ItemForm) (v : Bool) → not v ≡ true →
    (if v then Steps k (suc a) ∷ fs else Steps i 1 ∷ Steps k a ∷ fs) ≡ Steps i 1 ∷ Steps k a ∷ fs
one_step_by i k a fs true e = absurd cc
one_step_by i k a fs false e = refl

one_step : (i b : ℕ) (fs : List ItemForm) → stands (Steps i b) fs ≡ true → step_onto i fs ≡ Steps i 1 ∷ fs
one_step i b (Steps k a ∷ fs) e = one_step_by i k a fs (nat_eq i k) e
one_step i b _ e = refl

next_step_by : (i a : ℕ) (fs : List ItemForm) (v : Bool) → v ≡ true →
    (if v then Steps i (suc a) ∷ fs else Steps i 1 ∷ Steps i a ∷ fs) ≡ Steps i (suc a) ∷ fs
next_step_by i a fs true e = refl
next_step_by i a fs false e = absurd cc

next_step : (i a : ℕ) (fs : List ItemForm) → step_onto i (Steps i a ∷ fs) ≡ Steps i (suc a) ∷ fs
next_step i a fs = next_step_by i a fs (nat_eq i i) (eq-eqb i i refl)

steps_forms : (count i b : ℕ) (xs : List Item) (fs : List ItemForm) → forms_of xs ≡ fs → stands (Steps i b) fs ≡ true →
    forms_of (replicate (suc count) (item.Step i) ++ xs) ≡ Steps i (suc count) ∷ fs
steps_forms zero i b xs fs e s = ap (step_onto i) e ∙ one_step i b fs s
steps_forms (suc count) i b xs fs e s = ap (step_onto i) (steps_forms count i b xs fs e s) ∙ next_step i (suc count) fs

-- forms that are apart are the forms of their items
pub apart_forms : (fs : List ItemForm) → AreApart fs → forms_of (flat_map form_items fs) ≡ fs
apart_forms [] h = refl
apart_forms (Steps i zero ∷ fs) h = absurd (omega (arith, h.0))
apart_forms (Steps i (suc count) ∷ fs) h =
    steps_forms count i (suc count) (flat_map form_items fs) fs (apart_forms fs h.2) h.1
apart_forms (Calls i op ∷ fs) h = ap (λ (gs : List ItemForm). Calls i op ∷ gs) (apart_forms fs h.2)
apart_forms (Crashes i ∷ fs) h = ap (λ (gs : List ItemForm). Crashes i ∷ gs) (apart_forms fs h.2)

abbrev one_count : Bool → ℕ → Option ℕ
one_count v a = if v then Some a else None

not_joined : (v : Bool) (a : ℕ) → one_count v a ≡ None → not v ≡ true
not_joined true a e = absurd cc
not_joined false a e = refl

not_joins : (f : ItemForm) (p c : ℕ) → steps_of p f ≡ None → not (joins f (Steps p c)) ≡ true
not_joins (Steps i a) p c e = not_joined (nat_eq i p) a e
not_joins (Calls i op) p c e = refl
not_joins (Crashes i) p c e = refl

-- steps may be added behind a form that is not of their process
pub steps_added : (fs : List ItemForm) (p c : ℕ) → AreApart fs → 0 < c → last_count p fs ≡ None →
    AreApart (fs ++ Steps p c ∷ [])
steps_added [] p c h some e = (some, refl, tt)
steps_added (f ∷ []) p c h some e = (h.0, not_joins f p c e, (some, refl, tt))
steps_added (f ∷ g ∷ fs) p c h some e = (h.0, h.1, steps_added (g ∷ fs) p c h.2 some e)

joins_no_call : (f : ItemForm) (p : ℕ) (op : Op) → not (joins f (Calls p op)) ≡ true
joins_no_call (Steps i a) p op = refl
joins_no_call _ p op = refl

-- a call may be added
pub call_added : (fs : List ItemForm) (p : ℕ) (op : Op) → AreApart fs → AreApart (fs ++ Calls p op ∷ [])
call_added [] p op h = (omega arith, refl, tt)
call_added (f ∷ []) p op h = (h.0, joins_no_call f p op, (omega arith, refl, tt))
call_added (f ∷ g ∷ fs) p op h = (h.0, h.1, call_added (g ∷ fs) p op h.2)

joins_no_crash : (f : ItemForm) (p : ℕ) → not (joins f (Crashes p)) ≡ true
joins_no_crash (Steps i a) p = refl
joins_no_crash _ p = refl

-- a crash that is added keeps the forms apart
pub crash_added : (fs : List ItemForm) (p : ℕ) → AreApart fs → AreApart (fs ++ Crashes p ∷ [])
crash_added [] p h = (omega arith, refl, tt)
crash_added (f ∷ []) p h = (h.0, joins_no_crash f p, (omega arith, refl, tt))
crash_added (f ∷ g ∷ fs) p h = (h.0, h.1, crash_added (g ∷ fs) p h.2)

one_found : (v : Bool) (a b : ℕ) → one_count v a ≡ Some b → (v ≡ true) × (a ≡ b)
one_found true a b e = (refl, cc)
one_found false a b e = absurd cc

-- the form that was found
pub found_steps : (g : ItemForm) (p a : ℕ) → steps_of p g ≡ Some a → g ≡ Steps p a
found_steps (Steps i b) p a e = let h = one_found (nat_eq i p) b a e in let same = eqb-true i p h.0 in cc (same, h.1)
found_steps _ p a e = absurd cc

stands_with : (f g : ItemForm) (p a b : ℕ) → g ≡ Steps p a → not (joins f g) ≡ true → not (joins f (Steps p b)) ≡ true
stands_with (Steps i c) g p a b is e = ap (λ x. not (joins (Steps i c) x)) (sym is) ∙ e
stands_with _ g p a b is e = refl

-- the last steps may become more
pub steps_grown : (fs : List ItemForm) (k p a b : ℕ) → suc k ≡ length fs → AreApart fs → last_count p fs ≡ Some a →
    0 < b → AreApart (set fs k (Steps p b))
steps_grown (f ∷ []) zero p a b is h e some = (some, refl, tt)
steps_grown (f ∷ g ∷ []) (suc zero) p a b is h e some =
    (h.0, stands_with f g p a b (found_steps g p a e) h.1, (some, refl, tt))
steps_grown (f ∷ g ∷ j ∷ fs) (suc (suc k)) p a b is h e some =
    (h.0, h.1, steps_grown (g ∷ j ∷ fs) (suc k) p a b (omega arith) h.2 e some)
steps_grown _ _ p a b is h e some = absurd (omega arith)

-- the items of forms grow by the steps that are added
pub items_grown : (fs : List ItemForm) (k p a c : ℕ) → suc k ≡ length fs → last_count p fs ≡ Some a →
    flat_map form_items (set fs k (Steps p (a + c))) ≡ flat_map form_items fs ++ replicate c (item.Step p)
items_grown (f ∷ []) zero p a c is e =
    append-nil (replicate (a + c) (item.Step p)) ∙ sym (replicate-append-replicate a c (item.Step p))
    ∙ ap (λ (g : ItemForm). form_items g ++ replicate c (item.Step p)) (sym (found_steps f p a e))
    ∙ ap (λ (xs : List Item). xs ++ replicate c (item.Step p)) (sym (append-nil (form_items f)))
items_grown (f ∷ g ∷ fs) (suc k) p a c is e =
    ap (λ (xs : List Item). form_items f ++ xs) (items_grown (g ∷ fs) k p a c (omega arith) e)
    ∙ sym (append_assoc (form_items f) (flat_map form_items (g ∷ fs)) (replicate c (item.Step p)))
items_grown _ _ p a c is e = absurd (omega arith)

-- the last steps are among the items
pub last_within : (fs : List ItemForm) (p a : ℕ) → last_count p fs ≡ Some a → a ≤ length (flat_map form_items fs)
last_within [] p a e = absurd cc
last_within (f ∷ []) p a e =
    let is : length (form_items f) ≡ a =
    ap (λ (g : ItemForm). length (form_items g)) (found_steps f p a e) ∙ length-replicate a (item.Step p) in
    let all : length (form_items f ++ []) ≡ length (form_items f) = ap length (append-nil (form_items f)) in
    omega (arith, is, all)
last_within (f ∷ g ∷ fs) p a e =
    let rest = last_within (g ∷ fs) p a e in
    let all : length (form_items f ++ flat_map form_items (g ∷ fs)) ≡ length (form_items f)
    + length (flat_map form_items (g ∷ fs)) = length-append (form_items f) (flat_map form_items (g ∷ fs)) in
    omega (arith, rest, all)
