-- Laws of a `Course`, a machine that goes through a schedule with the events that callers saw: its items add up, and
-- a step of a process that is not busy does nothing, however often it comes.
use Rattle.std.proofs.Common.{◌≡◌, ℕ, zero, suc, ◌+◌, ◌<◌, ◌≤◌, List, [], ◌∷◌, ◌++◌, length, replicate, refl, sym, ap}
use Rattle.std.proofs.Common.{◌∙◌, append_assoc, append-nil, length-append, arith}
use Rattle.std.specs.List.{AllByRecursion, flat_map}
use Rattle.std.proofs.lemmas.List.{length-replicate, replicate_more, replicate-append-replicate}
use Rattle.snap_words.specs.Shape.{Counts, IsOneOf}
use Rattle.snap_semantics.specs.declared.process.Item.{Item}
use Rattle.snap_semantics.specs.declared.process.Outcome.{Outcome}
use Rattle.snap_semantics.specs.declared.process.Outcome.TheVariants.{Skipped}
use Rattle.snap_semantics.specs.declared.process.Reason.{Reason}
use Rattle.snap_semantics.specs.Run.{after, event_of, events}
use Rattle.snap_semantics.specs.Source.{Source}
use Rattle.snap_semantics.specs.State.{State, initial}
use Rattle.snap_semantics.specs.Table.{done, who}
use Rattle.snap_sched.specs.Segments.{segment_items}
use Rattle.snap_sched.specs.declared.segments.Segment.{Segment}
use Rattle.snap_record.proofs.Longer.{after_append, events_append}
use Rattle.snap_batch.specs.Courses.{DoesNothing, Takes}
use Rattle.snap_batch.specs.declared.course.Course.{Course}

-- some items, and some more
pub takes_more : {K W : Type 0} (c d e : Course K W) (xs ys : List Item) → Takes c xs d →
    Takes d ys e → Takes c (xs ++ ys) e
takes_more c d e xs ys h more =
    let s = c.machine.source in
    let n = c.machine.shape in
    let S = c.machine.state in
    let a = h.number in
    let b = more.number in
    let l = length-append xs ys in
    let number : d.done + 1 ≡ c.done + 1 + length xs = omega arith in
    record {
      source = more.source ∙ h.source;
      shape = more.shape ∙ h.shape;
      state = more.state ∙ rw (h.source, h.shape, h.state) (sym (after_append s n S xs ys));
      events = more.events ∙ rw (h.events, h.source, h.shape, h.state, number)
          (append_assoc c.events.items (events s n S (c.done + 1) xs)
          (events s n (after s n S xs) (c.done + 1 + length xs) ys)
          ∙ ap (λ es. c.events.items ++ es) (sym (events_append s n S (c.done + 1) xs ys)));
      number = omega arith;
    }

-- an item once more
pub takes_once_more : {K W : Type 0} (c d e : Course K W) (k m : ℕ) (x : Item) → m ≡ k + 1 →
    Takes c (replicate k x) d → Takes d (x ∷ []) e → Takes c (replicate m x) e
takes_once_more c d e k m x is h more =
    rw (is, ← replicate_more k x) (takes_more c d e (replicate k x) (x ∷ []) h more)

-- an item that does nothing, however often
pub takes_idle : {K W : Type 0} (c d e : Course K W) (k j m : ℕ) (x : Item) → m ≡ k + j →
    Takes c (replicate k x) d → DoesNothing d.machine.source d.machine.shape d.machine.state x →
    e.machine ≡ d.machine → e.events ≡ d.events → e.done ≡ d.done + j → Takes c (replicate m x) e
takes_idle c d e k j m x is h nothing machine same number =
    let idle = nothing (d.done + 1) j in
    let l = length-replicate j x in
    let more : Takes d (replicate j x) e = record {
      source = ap (λ y. y.source) machine;
      shape = ap (λ y. y.shape) machine;
      state = ap (λ y. y.state) machine ∙ sym idle.0;
      events = ap (λ v. v.items) same ∙ sym (append-nil d.events.items) ∙ ap (λ es. d.events.items ++ es) (sym idle.1);
      number = omega arith;
    } in
    rw (is, ← replicate-append-replicate k j x) (takes_more c d e (replicate k x) (replicate j x) h more)

-- an item that is skipped does nothing
pub skipped_does_nothing : (s : Source) (n : Counts) (S : State) (x : Item) (r : Reason) →
    done s n S x ≡ (S, Skipped r) → DoesNothing s n S x
skipped_does_nothing s n S x r is t zero = (refl, refl)
skipped_does_nothing s n S x r is t (suc k) =
    let rest = skipped_does_nothing s n S x r is (t + 1) k in (
      ap (λ (o : State × Outcome). after s n o.0 (replicate k x)) is ∙ rest.0,
      ap (λ (o : State × Outcome). event_of t x o.1 ++ events s n o.0 (t + 1) (replicate k x)) is ∙ rest.1,
    )

-- of these items some are done, and the others are left
pub record Going {K W : Type 0} (s : Source) (n : Counts) (all : List Item) (c : Course K W)
    (left : List Item) : Type 0 where
  pub fits : AllByRecursion (λ x. IsOneOf n.n (who x)) left
  pub source : c.machine.source ≡ s
  pub shape : c.machine.shape ≡ n
  pub state : after s n (initial s n) all ≡ after s n c.machine.state left
  pub events : events s n (initial s n) 1 all ≡ c.events.items ++ events s n c.machine.state (c.done + 1) left
  pub number : length all ≡ c.done + length left
  pub few : length all ≤ 1000000

-- what holds of all items of two lists, holds of those of the second
all_right : (P : Item → Type 0) (xs ys : List Item) → AllByRecursion P (xs ++ ys) → AllByRecursion P ys
all_right P [] ys h = h
all_right P (x ∷ xs) ys h = all_right P xs ys h.1

-- an item that stands at the front may be done
first_fits : (P : Item → Type 0) (k : ℕ) (x : Item) (ys : List Item) → 0 < k →
    AllByRecursion P (replicate k x ++ ys) → P x
first_fits P zero x ys some h = absurd (omega arith)
first_fits P (suc k) x ys some h = h.0

-- the items of a segment stand before those of the segments behind it
in_front : (left left' : List Segment) (r : Segment) (x : Item) (k : ℕ) → left ≡ r ∷ left' →
    replicate k x ≡ segment_items r → flat_map segment_items left ≡ replicate k x ++ flat_map segment_items left'
in_front left left' r x k next is = rw (next, is)

-- the item that comes next may be done
pub next_fits : {K W : Type 0} (s : Source) (n : Counts) (all : List Item) (left left' : List Segment) (r : Segment)
    (c : Course K W) (x : Item) (k : ℕ) → Going s n all c (flat_map segment_items left) → left ≡ r ∷ left' →
    replicate k x ≡ segment_items r → 0 < k → IsOneOf c.machine.shape.n (who x)
next_fits s n all left left' r c x k h next is some =
    rw h.shape (first_fits (λ x. IsOneOf n.n (who x)) k x (flat_map segment_items left') some
    (rw (in_front left left' r x k next is) at h.fits))

-- there is a number for the next item, as often as it comes
pub next_few : {K W : Type 0} (s : Source) (n : Counts) (all : List Item) (left left' : List Segment) (r : Segment)
    (c : Course K W) (x : Item) (k : ℕ) → Going s n all c (flat_map segment_items left) → left ≡ r ∷ left' →
    replicate k x ≡ segment_items r → c.done + k ≤ 1000000
next_few s n all left left' r c x k h next is =
    let e = h.number in
    let f = h.few in
    let m =
    ap length (in_front left left' r x k next is) ∙ length-append (replicate k x) (flat_map segment_items left') in
    let l = length-replicate k x in
    omega arith

-- when they are done, the others are left
pub some_more : {K W : Type 0} (s : Source) (n : Counts) (all : List Item) (left left' : List Segment) (r : Segment)
    (c c' : Course K W) (x : Item) (k : ℕ) → Going s n all c (flat_map segment_items left) → left ≡ r ∷ left' →
    replicate k x ≡ segment_items r → Takes c (replicate k x) c' → Going s n all c' (flat_map segment_items left')
some_more s n all left left' r c c' x k h next is took =
    let xs = replicate k x in
    let ys = flat_map segment_items left' in
    let g = rw (in_front left left' r x k next is) at h in
    let a = g.number in
    let b = took.number in
    let l = length-append xs ys in
    let number : c'.done + 1 ≡ c.done + 1 + length xs = omega arith in
    record {
      fits = all_right (λ x. IsOneOf n.n (who x)) xs ys g.fits;
      source = took.source ∙ g.source;
      shape = took.shape ∙ g.shape;
      state = g.state ∙ after_append s n c.machine.state xs ys ∙ rw (took.state, g.source, g.shape) refl;
      events = g.events ∙ ap (λ es. c.events.items ++ es) (events_append s n c.machine.state (c.done + 1) xs ys)
          ∙ sym (append_assoc c.events.items (events s n c.machine.state (c.done + 1) xs)
          (events s n (after s n c.machine.state xs) (c.done + 1 + length xs) ys))
          ∙ rw (took.events, took.state, number, g.source, g.shape) refl;
      number = omega arith;
      few = g.few;
    }
