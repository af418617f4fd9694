-- The first items of a run that a debugger's `Recording` has: their states and events are those of the whole run.
use Rattle.std.proofs.Common.{◌≡◌, ℕ, zero, suc, ◌+◌, ◌-◌, ◌<◌, ◌≤◌, List, [], ◌∷◌, ◌++◌, length, take, drop, Some}
use Rattle.std.proofs.Common.{nat_le, if◌then◌else◌, get_or, refl, sym, ap, subst}
use Rattle.std.proofs.Common.{◌∙◌, append-nil, length-append, length-drop, arith}
use Rattle.std.specs.List.{AllByRecursion}
use Rattle.std.proofs.lemmas.Bool.{le-leb, lt-leb, lt-ltb}
use Rattle.std.proofs.lemmas.List.{drop_all, take-append-le, take_all, get_or_append_left}
use Rattle.std.proofs.lemmas.Option.{slice_get-get_or}
use Rattle.std.proofs.Math.Seq.{drop-append_seam, drop-cons}
use Rattle.snap_sched.proofs.Again.{all_rest}
use Rattle.snap_words.specs.Shape.{Counts, IsOneOf}
use Rattle.snap_semantics.specs.Readers.{nth}
use Rattle.snap_semantics.specs.Run.{events, event_of}
use Rattle.snap_semantics.specs.Source.{Source}
use Rattle.snap_semantics.specs.State.{State, initial}
use Rattle.snap_semantics.specs.Table.{done, who}
use Rattle.snap_semantics.specs.declared.event.Event.{Event}
use Rattle.snap_semantics.specs.declared.process.Item.{Item}
use Rattle.snap_semantics.specs.declared.process.Item.TheVariants.{Step, Call}
use Rattle.snap_semantics.specs.declared.process.Outcome.{Outcome}
use Rattle.snap_semantics.specs.declared.process.Outcome.TheVariants as outcomes
use Rattle.snap_semantics.specs.declared.event.Happening.TheVariants as what
use Rattle.snap_machine.specs.Configuration.{Configuration}
use Rattle.snap_runs.specs.Run.{Run, state, item, outcome, events_of}
use Rattle.snap_runs.proofs.Embedding.{all_index, next_state}
use Rattle.snap_record.proofs.Later.{events_after}
use Rattle.snap_debug.specs.Recording.{ContinuesWith, IsRecorded, IsCheckpoint, configuration}
use Rattle.snap_debug.specs.declared.checkpoint.Checkpoint.{Checkpoint}

-- how many items there are
pub size_is : (r p : Run) (xs : List Item) → ContinuesWith r p xs → length r.items ≡ length p.items + length xs
size_is r p xs h = ap length h.items ∙ length-append p.items xs

-- the states so far
pub state_begun : (r p : Run) (xs : List Item) (t : ℕ) → ContinuesWith r p xs →
    t ≤ length p.items → state p t ≡ state r t
state_begun r p xs t h le =
    rw (h.source, h.shape, h.items, take-append-le t p.items xs le) refl

-- the machine of what is recorded
pub recorded_stands : {K W : Type 0} (r p : Run) (xs : List Item) (s : Checkpoint K W) →
    ContinuesWith r p xs → s.position ≡ length p.items →
    s.machine ≡ record { source = p.source; shape = p.shape; state = state p (length p.items) } → IsCheckpoint r s
recorded_stands r p xs s h at is = record {
  within = (let size = size_is r p xs h in omega (arith, size, at));
  machine =
      let states = state_begun r p xs (length p.items) h (omega arith) in
      rw (is, at) (λ i. record { source = h.source i; shape = h.shape i; state = states i });
}

-- the next item is of one of the processes
pub next_one : (r p : Run) (x : Item) (xs ys : List Item) → ContinuesWith r p ys →
    ys ≡ x ∷ xs → IsOneOf p.shape.n (who x)
next_one r p x xs ys h more =
    let fits : AllByRecursion (λ (y : Item). IsOneOf r.shape.n (who y)) (p.items ++ x ∷ xs) =
    rw (h.items, more) at h.fits.all in
    rw h.shape (all_rest (λ (i : ℕ). IsOneOf r.shape.n i) p.items (x ∷ xs) fits).0

-- whatever is to come, the first items are recorded
pub begun : (r p : Run) (xs : List Item) → ContinuesWith r p xs → IsRecorded r p
begun r p xs h = record {
  fits = h.fits;
  few = h.few;
  source = h.source;
  shape = h.shape;
  items = rw (h.items, drop-append_seam p.items xs) refl;
}

-- an item that is recorded
pub item_there : (r p : Run) (xs : List Item) (t : ℕ) → ContinuesWith r p xs → 0 < t → t ≤ length p.items →
    nth t p.items ≡ Some (item r t)
item_there r p xs zero h lt le = absurd (omega (arith, lt))
item_there r p xs (suc t) h lt le =
    let within : t < length p.items = omega (arith, le) in
    let e : suc t - 1 ≡ t = omega arith in
    rw (
      lt-ltb 0 (suc t) lt,
      e,
      slice_get-get_or p.items t (Step 0) within,
      h.items,
      get_or_append_left p.items xs (Step 0) t within,
    ) refl

-- is of one of the processes
pub item_one : (r p : Run) (xs : List Item) (t : ℕ) → ContinuesWith r p xs → 0 < t → t ≤ length p.items →
    IsOneOf r.shape.n (who (item r t))
item_one r p xs zero h lt le = absurd (omega (arith, lt))
item_one r p xs (suc t) h lt le =
    let size = size_is r p xs h in
    all_index (λ (y : Item). IsOneOf r.shape.n (who y)) r.items t (Step 0) h.fits.all (omega (arith, size, le))

-- a machine is its parts
pub machine_is : (r : Run) (t : ℕ) (m : Configuration) → m.source ≡ r.source → m.shape ≡ r.shape →
    m.state ≡ state r t → m ≡ configuration r t
machine_is r t m source shape left = λ i. record { source = source i; shape = shape i; state = left i }

-- a machine does the next item
pub checkpoint_next : {K W : Type 0} (r : Run) (s u : Checkpoint K W) (x : Item) (o : Outcome) →
    IsCheckpoint r s → s.position < length r.items → x ≡ item r (s.position + 1) →
    done s.machine.source s.machine.shape s.machine.state x ≡ (u.machine.state, o) →
    u.machine.source ≡ s.machine.source → u.machine.shape ≡ s.machine.shape →
    u.position ≡ s.position + 1 → IsCheckpoint r u × (o ≡ outcome r (s.position + 1))
checkpoint_next r s u x o h lt is did source shape at =
    let t = s.position in
    let e : t + 1 ≡ suc t = omega arith in
    let there : done r.source r.shape (state r t) (item r (suc t)) ≡ (u.machine.state, o) =
    rw (h.machine, is, e) at did in (
      record {
        within = omega (arith, lt, at);
        machine = machine_is r u.position u.machine (rw (source, h.machine) refl) (rw (shape, h.machine) refl)
            (rw (at, e, next_state r t lt, there) refl);
      },
      sym (ap (λ (p : State × Outcome). p.1) there) ∙ ap (outcome r) (sym e),
    )

-- one of a list
pub one_of : {X : Type 0} (P : X → Type 0) (xs : List X) (k : ℕ) (x : X) → AllByRecursion P xs →
    k < length xs → x ≡ get_or xs k x → P x
one_of P [] k x all lt is = absurd (omega (arith, lt))
one_of P (y ∷ xs) zero x all lt is = subst P (sym is) all.0
one_of P (y ∷ xs) (suc k) x all lt is = one_of P xs k x all.1 (omega (arith, lt)) is

-- the events up to item p
abbrev pub until : ℕ → List Event → List Event
until p [] = []
until p (e ∷ es) = if nat_le e.item p then e ∷ until p es else []

-- none are, where all are later
none_until : (p : ℕ) (es : List Event) → AllByRecursion (λ (e : Event). suc p ≤ e.item) es → until p es ≡ []
none_until p [] all = refl
none_until p (e ∷ es) all =
    rw (lt-leb e.item p (omega (arith, all.0))) refl

-- one up to there is
one_until : (p : ℕ) (e : Event) (es : List Event) → e.item ≤ p → until p (e ∷ es) ≡ e ∷ until p es
one_until p e es le = rw (le-leb e.item p le) refl

-- the event of an item up to there
item_until : (p t : ℕ) (x : Item) (o : Outcome) (es : List Event) → t ≤ p →
    until p (event_of t x o ++ es) ≡ event_of t x o ++ until p es
item_until p t (Call i op) outcomes.Called es le =
    one_until p (record { item = t; process = i; what = what.Call op }) es le
item_until p t x (outcomes.Answered v) es le =
    one_until p (record { item = t; process = who x; what = what.Answer v }) es le
item_until p t x outcomes.Finished es le = one_until p (record { item = t; process = who x; what = what.Done }) es le
item_until p t x outcomes.Crashed es le = one_until p (record { item = t; process = who x; what = what.Crash }) es le
item_until p t x _ es le = refl

-- the events of the items from item t to item p
events_until : (s : Source) (n : Counts) (S : State) (t more : ℕ) (xs : List Item) →
    until (t + more) (events s n S (suc t) xs) ≡ events s n S (suc t) (take more xs)
events_until s n S t zero xs =
    let e : t + 0 ≡ t = omega arith in
    rw e (none_until t (events s n S (suc t) xs) (events_after s n S (suc t) (suc t) xs (omega arith)))
events_until s n S t (suc more) [] = refl
events_until s n S t (suc more) (x ∷ xs) =
    let e : t + suc more ≡ suc t + more = omega arith in
    let f : suc t + 1 ≡ suc (suc t) = omega arith in
    rw (
      item_until (t + suc more) (suc t) x (done s n S x).1 (events s n (done s n S x).0 (suc t + 1) xs) (omega arith),
      f,
      e,
      events_until s n (done s n S x).0 (suc t) more xs,
    ) refl

-- the events of the first p items
pub first_events : (r : Run) (p : ℕ) (es : List Event) → es ≡ events_of r (length r.items) → until p es ≡ events_of r p
first_events r p es all =
    let all_items = take_all (length r.items) r.items (omega arith) in
    let until_p = events_until r.source r.shape (initial r.source r.shape) 0 p r.items in
    let e : 0 + p ≡ p = omega arith in
    rw (all, all_items) (rw e at until_p)

-- the next of the items to come
pub drop_next : (xs ys : List Item) (x : Item) (k : ℕ) → drop k xs ≡ x ∷ ys → drop (k + 1) xs ≡ ys
drop_next xs ys x k h =
    let size = length-drop k xs in
    let e : suc k ≡ k + 1 = omega arith in
    let next = drop-cons xs k (Step 0) (let some = ap length h in omega (arith, size, some)) in
    rw (← e) (cc (next, h))

-- a later one, and none behind it
pub until_here : (p k : ℕ) (es : List Event) (e : Event) → until p es ≡ take k es ++ until p (drop k es) →
    k < length es → e ≡ get_or es k e → p < e.item → until p es ≡ take k es
until_here p k es e h lt is later =
    h ∙ (rw (drop-cons es k e lt, ← is, lt-leb e.item p later) (append-nil (take k es)))

-- all of them
pub until_end : (p k : ℕ) (es : List Event) → until p es ≡ take k es ++ until p (drop k es) →
    length es ≤ k → until p es ≡ es
until_end p k es h le = h ∙ (rw (take_all k es le, drop_all k es le) (append-nil es))
