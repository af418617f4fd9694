-- A run with one more item has the same states, outcomes and events up to there, and then those of this item.
use Rattle.std.proofs.Common.{◌≡◌, ℕ, zero, suc, ◌+◌, ◌≤◌, List, [], ◌∷◌, ◌++◌, length, take, refl, sym, ap, ◌∙◌}
use Rattle.std.proofs.Common.{append_assoc, append-nil, length-append, arith}
use Rattle.std.proofs.Math.ListN.{get_or-append}
use Rattle.std.proofs.Math.Seq.{get_or-append_seam}
use Rattle.std.proofs.lemmas.List.{take-append-le, take_all}
use Rattle.std.specs.List.{AllByRecursion}
use Rattle.snap_words.specs.Shape.{Counts}
use Rattle.snap_semantics.specs.Run.{after, events, event_of}
use Rattle.snap_semantics.specs.Source.{Source}
use Rattle.snap_semantics.specs.State.{State, initial}
use Rattle.snap_semantics.specs.Table.{done, who}
use Rattle.snap_semantics.specs.declared.event.Event.{Event}
use Rattle.snap_semantics.specs.declared.process.Item.{Item}
use Rattle.snap_semantics.specs.declared.process.Item.TheVariants.{Step, Call}
use Rattle.snap_semantics.specs.declared.process.Outcome.{Outcome}
use Rattle.snap_semantics.specs.declared.process.Outcome.TheVariants as outcomes
use Rattle.snap_runs.specs.Run.{Run, state, before, item, outcome, events_of}
use Rattle.snap_record.specs.Longer.{with_item}

-- items one after the other
pub after_append : (s : Source) (n : Counts) (S : State) (xs ys : List Item) →
    after s n S (xs ++ ys) ≡ after s n (after s n S xs) ys
after_append s n S [] ys = refl
after_append s n S (x ∷ xs) ys = after_append s n (done s n S x).0 xs ys

-- what holds of each event of item t and of the item's process, holds of those that an outcome of the item leaves
pub event_has : (P : Event → Type 0) (t : ℕ) (x : Item) (o : Outcome) →
    ((e : Event) → e.item ≡ t → e.process ≡ who x → P e) → AllByRecursion P (event_of t x o)
event_has P t (Call i op) outcomes.Called h = (h _ refl refl, tt)
event_has P t x (outcomes.Answered v) h = (h _ refl refl, tt)
event_has P t x outcomes.Finished h = (h _ refl refl, tt)
event_has P t x outcomes.Crashed h = (h _ refl refl, tt)
event_has P t x _ h = tt

-- the events of items that are done one after the other
pub events_append : (s : Source) (n : Counts) (S : State) (t : ℕ) (xs ys : List Item)
    → events s n S t (xs ++ ys) ≡ events s n S t xs ++ events s n (after s n S xs) (t + length xs) ys
events_append s n S t [] ys = let place : t ≡ t + 0 = omega arith in ap (λ k. events s n S k ys) place
events_append s n S t (x ∷ xs) ys =
    let later = events_append s n (done s n S x).0 (t + 1) xs ys in
    let place : t + 1 + length xs ≡ t + suc (length xs) = omega arith in
    ap (λ es. event_of t x (done s n S x).1 ++ es) (later
    ∙ ap (λ k. events s n (done s n S x).0 (t + 1) xs ++ events s n (after s n (done s n S x).0 xs) k ys) place)
    ∙ sym (append_assoc (event_of t x (done s n S x).1) (events s n (done s n S x).0 (t + 1) xs)
    (events s n (after s n S (x ∷ xs)) (t + suc (length xs)) ys))

-- how many items a run has
abbrev pub size : Run → ℕ
size r = length r.items

-- one item more
pub longer : (r : Run) (x : Item) → length (with_item r x).items ≡ suc (size r)
longer r x = length-append r.items (x ∷ []) ∙ (let e : size r + 1 ≡ suc (size r) = omega arith in e)

-- up to its last item a run is as it was
pub state_front : (r : Run) (x : Item) (t : ℕ) → t ≤ size r → state (with_item r x) t ≡ state r t
state_front r x t h = ap (after r.source r.shape (initial r.source r.shape)) (take-append-le t r.items (x ∷ []) h)

-- nor is the state before an item other
pub before_front : (r : Run) (x : Item) (t : ℕ) → t ≤ suc (size r) → before (with_item r x) t ≡ before r t
before_front r x zero h = state_front r x 0 (omega arith)
before_front r x (suc t) h = state_front r x t (omega arith)

-- nor an item
pub item_front : (r : Run) (x : Item) (t : ℕ) → t ≤ size r → item (with_item r x) t ≡ item r t
item_front r x zero h = refl
item_front r x (suc t) h = get_or-append r.items (x ∷ []) (Step 0) t (omega arith)

-- the last item
pub item_last : (r : Run) (x : Item) → item (with_item r x) (suc (size r)) ≡ x
item_last r x = get_or-append_seam r.items x [] (Step 0)

-- what comes of an item goes by the state and the item
outcome_by : (s : Source) (n : Counts) (S S' : State) (x x' : Item) → S ≡ S' → x ≡ x' →
    (done s n S x).1 ≡ (done s n S' x').1
outcome_by s n S S' x x' a b = ap (λ (y : State). (done s n y x).1) a ∙ ap (λ (y : Item). (done s n S' y).1) b

-- what came of the last item
pub outcome_last : (r : Run) (x : Item) →
    outcome (with_item r x) (suc (size r)) ≡ (done r.source r.shape (state r (size r)) x).1
outcome_last r x = outcome_by r.source r.shape _ _ _ _ (state_front r x (size r) (omega arith)) (item_last r x)

-- the state after all items
whole : (r : Run) → state r (size r) ≡ after r.source r.shape (initial r.source r.shape) r.items
whole r = ap (after r.source r.shape (initial r.source r.shape)) (take_all (size r) r.items (omega arith))

-- the state after the last item
pub state_last : (r : Run) (x : Item) →
    state (with_item r x) (suc (size r)) ≡ (done r.source r.shape (state r (size r)) x).0
state_last r x =
    let all : take (suc (size r)) (r.items ++ x ∷ []) ≡ r.items ++ x ∷ [] =
    take_all (suc (size r)) (r.items ++ x ∷ []) (let e = longer r x in omega (arith, e)) in
    ap (after r.source r.shape (initial r.source r.shape)) all
    ∙ after_append r.source r.shape (initial r.source r.shape) r.items (x ∷ [])
    ∙ ap (λ (S : State). (done r.source r.shape S x).0) (sym (whole r))

-- the events with those of the last item
pub events_last : (r : Run) (x : Item) →
    events_of (with_item r x) (suc (size r))
    ≡ events_of r (size r) ++ event_of (suc (size r)) x (done r.source r.shape (state r (size r)) x).1
events_last r x =
    let s = r.source in
    let n = r.shape in
    let start = initial s n in
    let all : take (suc (size r)) (r.items ++ x ∷ []) ≡ r.items ++ x ∷ [] =
    take_all (suc (size r)) (r.items ++ x ∷ []) (let e = longer r x in omega (arith, e)) in
    let old : take (size r) r.items ≡ r.items = take_all (size r) r.items (omega arith) in
    let place : 1 + size r ≡ suc (size r) = omega arith in
    ap (events s n start 1) all
    ∙ events_append s n start 1 r.items (x ∷ [])
    ∙ ap (λ (k : ℕ). events s n start 1 r.items ++ events s n (after s n start r.items) k (x ∷ [])) place
    ∙ ap (λ (es : List Event). events s n start 1 r.items ++ es)
    (append-nil (event_of (suc (size r)) x (done s n (after s n start r.items) x).1))
    ∙ ap (λ (S : State). events s n start 1 r.items ++ event_of (suc (size r)) x (done s n S x).1) (sym (whole r))
    ∙ ap (λ (ys : List Item). events s n start 1 ys ++ event_of (suc (size r)) x (done s n (state r (size r)) x).1)
    (sym old)

-- parts that are those of a run with one more item make up that run
pub same_run : (r r0 : Run) (x : Item) (s : Source) (n : Counts) (items : List Item) →
    r ≡ r0 → s ≡ r.source → n ≡ r.shape → items ≡ r.items ++ x ∷ [] →
    (let made : Run = record { source = s; shape = n; items = items } in made) ≡ with_item r0 x
same_run r r0 x s n items whole source shape more =
    ap (λ (y : Source). let made : Run = record { source = y; shape = n; items = items } in made) source
    ∙ ap (λ (y : Counts). let made : Run = record { source = r.source; shape = y; items = items } in made) shape
    ∙ ap (λ (y : List Item). let made : Run = record { source = r.source; shape = r.shape; items = y } in made) more
    ∙ ap (λ (y : Run). with_item y x) whole

-- of two lists
pub join_all : {X : Type 0} (P : X → Type 0) (xs ys : List X) → AllByRecursion P xs →
    AllByRecursion P ys → AllByRecursion P (xs ++ ys)
join_all P [] ys a b = b
join_all P (x ∷ xs) ys a b = (a.0, join_all P xs ys a.1 b)
