-- `events_from`: the events of a run after item t: the one of the next item, if it has one, and then those of the
-- items after that.
use Rattle.std.proofs.Common.{◌≡◌, ℕ, zero, suc, ◌+◌, ◌<◌, ◌≤◌, List, [], ◌∷◌, ◌++◌, length, drop, get_or}
use Rattle.std.proofs.Common.{slice_index_or, refl, sym, ap, ◌∙◌, arith}
use Rattle.std.proofs.lemmas.List.{take_all, drop_all}
use Rattle.std.specs.List.{AllByRecursion}
use Rattle.snap_words.specs.Shape.{Counts, IsOneOf}
use Rattle.snap_semantics.specs.Run.{events, event_of}
use Rattle.snap_semantics.specs.Source.{Source}
use Rattle.snap_semantics.specs.State.{State, initial}
use Rattle.snap_semantics.specs.Table.{done, who}
use Rattle.snap_semantics.specs.declared.event.Event.{Event}
use Rattle.snap_semantics.specs.declared.process.Item.{Item}
use Rattle.snap_semantics.specs.declared.process.Item.TheVariants.{Step, Call}
use Rattle.snap_semantics.specs.declared.process.Outcome.{Outcome}
use Rattle.snap_semantics.specs.declared.process.Outcome.TheVariants as outcomes
use Rattle.snap_runs.specs.Run.{Run, IsValidRun, state, item, outcome, events_of}
use Rattle.snap_runs.proofs.Embedding.{next_state}
use Rattle.snap_record.specs.History.{IsRising, IsWithin}
use Rattle.snap_record.proofs.Later.{events_after}
use Rattle.snap_record.proofs.Longer.{event_has, join_all}

-- the events of the items after item t
abbrev pub events_from : Run → ℕ → List Event
events_from r t = events r.source r.shape (state r t) (suc t) (drop t r.items)

-- the next item, and those behind it
next_item : (xs : List Item) (t : ℕ) → t < length xs → drop t xs ≡ slice_index_or xs t (Step 0) ∷ drop (suc t) xs
next_item [] t lt = absurd (omega (arith, lt))
next_item (x ∷ xs) zero lt = refl
next_item (x ∷ xs) (suc t) lt = next_item xs t (omega (arith, lt))

-- the next event
pub next_left : (es : List Event) (k : ℕ) (e : Event) → k < length es → e ≡ get_or es k e →
    drop k es ≡ e ∷ drop (k + 1) es
next_left es k e lt is = (let next : suc k ≡ k + 1 = omega arith in by_place es k lt is ∙ ap (λ m. e ∷ drop m es) next)
  where
    by_place : (es : List Event) (k : ℕ) → k < length es → e ≡ get_or es k e → drop k es ≡ e ∷ drop (suc k) es
    by_place [] k lt is = absurd (omega (arith, lt))
    by_place (x ∷ es) zero lt is = ap (λ y. y ∷ es) (sym is)
    by_place (x ∷ es) (suc k) lt is = by_place es k (omega (arith, lt)) is

-- the event of the next item, where it has one, and then those behind it
pub next_events : (r : Run) (t : ℕ) → t < length r.items →
    events_from r t ≡ event_of (suc t) (item r (suc t)) (outcome r (suc t)) ++ events_from r (suc t)
next_events r t lt =
    let s = r.source in
    let n = r.shape in
    let x = item r (suc t) in
    let event = event_of (suc t) x (outcome r (suc t)) in
    let place : suc t + 1 ≡ suc (suc t) = omega arith in
    ap (events s n (state r t) (suc t)) (next_item r.items t lt)
    ∙ ap (λ k. event ++ events s n (done s n (state r t) x).0 k (drop (suc t) r.items)) place
    ∙ ap (λ (S : State). event ++ events s n S (suc (suc t)) (drop (suc t) r.items)) (sym (next_state r t lt))

-- after the last item there are none
pub no_events : (r : Run) (t : ℕ) → length r.items ≤ t → events_from r t ≡ []
no_events r t le = ap (events r.source r.shape (state r t) (suc t)) (drop_all t r.items le)

-- all events
pub all_events : (r : Run) → events_of r (length r.items) ≡ events_from r 0
all_events r =
    ap (events r.source r.shape (initial r.source r.shape) 1) (take_all (length r.items) r.items (omega arith))

-- an event of an item that is one of so many
event_within : (n u t : ℕ) (x : Item) (o : Outcome) → IsOneOf n (who x) → t ≤ u →
    AllByRecursion (IsWithin n u) (event_of t x o)
event_within n u t x o one le =
    event_has (IsWithin n u) t x o (λ e at whose. (rw whose one, omega (arith, le, at)))

-- events of items, the first of which is item t
events_within : (s : Source) (n : Counts) (S : State) (t u : ℕ) (xs : List Item) →
    AllByRecursion (λ x. IsOneOf n.n (who x)) xs → t + length xs ≤ suc u →
    AllByRecursion (IsWithin n.n u) (events s n S t xs)
events_within s n S t u [] all le = tt
events_within s n S t u (x ∷ xs) all le =
    join_all (IsWithin n.n u) (event_of t x (done s n S x).1) (events s n (done s n S x).0 (t + 1) xs)
    (event_within n.n u t x (done s n S x).1 all.0 (omega (arith, le)))
    (events_within s n (done s n S x).0 (t + 1) u xs all.1 (omega (arith, le)))

-- each event of a run is within the run
pub all_within_run : (r : Run) → IsValidRun r → AllByRecursion (IsWithin r.shape.n (length r.items)) (events_from r 0)
all_within_run r fits = events_within r.source r.shape (state r 0) 1 (length r.items) r.items fits.all (omega arith)

-- one event at most, and then later ones
event_rises : (t : ℕ) (x : Item) (o : Outcome) (es : List Event) → AllByRecursion (λ (e : Event). t ≤ e.item) es →
    IsRising es → IsRising (event_of t x o ++ es)
event_rises t (Call i op) outcomes.Called es later rises = (later, rises)
event_rises t x (outcomes.Answered v) es later rises = (later, rises)
event_rises t x outcomes.Finished es later rises = (later, rises)
event_rises t x outcomes.Crashed es later rises = (later, rises)
event_rises t x _ es later rises = rises

-- the events of items rise
events_rise : (s : Source) (n : Counts) (S : State) (t : ℕ) (xs : List Item) → IsRising (events s n S t xs)
events_rise s n S t [] = tt
events_rise s n S t (x ∷ xs) =
    event_rises t x (done s n S x).1 (events s n (done s n S x).0 (t + 1) xs)
    (events_after s n (done s n S x).0 t (t + 1) xs (omega arith))
    (events_rise s n (done s n S x).0 (t + 1) xs)

-- the events of a run rise
pub rising_run : (r : Run) → IsRising (events_from r 0)
rising_run r = events_rise r.source r.shape (state r 0) 1 r.items
