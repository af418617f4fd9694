-- Each operation of a linearization by points has an item at which
-- it takes place: an update its write, and a scan its point.
use Rattle.std.specs.Prelude.{◌≡◌, ℕ, suc, ◌≤◌, ◌⊎◌, List, [], ◌∷◌, length, Option, Some, None, slice_index_or, refl}
use Rattle.std.specs.List.{AllByRecursion, AllPairs, AllZip, Contains}
use Rattle.std.specs.List.Sorted.{IsNonDecreasing}
use Rattle.std.proofs.Common.{sym, ◌∙◌, ap, arith, inl, inr}
use Rattle.std.proofs.Math.Nat.{eq-or-lt_of_le}
use Rattle.std.proofs.lemmas.List.Elements.{All-from_recursion}
use Rattle.std.proofs.lemmas.List.Kept.{AllPairs-cons}
use Rattle.snap_runs.proofs.Common.{values, Run, IsValidRun, state}
use Rattle.snap_runs.specs.LinearizationPoints.{HasLinearizationPoints}
use Rattle.snap_runs.specs.Operation.{Action, Sets, Sees, Operation, TookPlace, IsOperation}
use Rattle.snap_runs.specs.Placement.{HappensAt, TakesPlaceAt, IsPlacedLinearization, PlacedByPoints}
use Rattle.snap_runs.proofs.Linear as linear
use Rattle.snap_runs.proofs.Operations as operations
use Rattle.snap_runs.proofs.Order.{Pairs, sooner_item_le}

-- numbers of which none is below an earlier one
pub non_decreasing : (xs : List ℕ) → AllPairs (λ x y. x ≤ y) xs → IsNonDecreasing xs
non_decreasing xs h i j d le short =
    elim (eq-or-lt_of_le le) [
      | inl same ↦
          (let e : slice_index_or xs i d ≡ slice_index_or xs j d = ap (λ k. slice_index_or xs k d) same in omega arith)
      | inr less ↦ h i j d less short
    ]

module _ (line : ℕ) (r : Run) (fits : IsValidRun r) (points : HasLinearizationPoints line r) where
  abbrev AnswerAt : ℕ → Type 0
  AnswerAt e = linear.AnswerAt line r fits points e

  abbrev NoAnswer : ℕ → Type 0
  NoAnswer e = linear.NoAnswer line r fits points e

  abbrev Spot : Action → ℕ → ℕ → Option ℕ → ℕ → ℕ → Type 0
  Spot a i c end t s = linear.Spot line r fits points a i c end t s

  abbrev Placed : ℕ → ℕ → Operation → Type 0
  Placed t s o = linear.Placed line r fits points t s o

  -- an operation has a spot in the run
  abbrev pub Stands : Operation → Type 0
  Stands o = linear.Before line r fits points (suc (length r.items)) 0 o

  abbrev Follows : Operation → Operation → Type 0
  Follows a b = linear.Follows line r fits points a b

  -- all operations with a spot, in order
  abbrev pub Ordered : List Operation → Type 0
  Ordered os = linear.OrderedUpTo line r fits points (suc (length r.items)) 0 (values (state r (length r.items))) os

  -- at a scan's spot the values are its view
  seen_at : (i c t s : ℕ) (end : Option ℕ) (view : List ℕ) → TookPlace r i c end (Sees view) →
      Spot (Sees view) i c end t s → values (state r t) ≡ view
  seen_at i c t s end view took spot = decided (linear.answer_at line r fits points s) refl
    where
      decided : (d : AnswerAt s ⊎ NoAnswer s) → linear.answer_at line r fits points s ≡ d → values (state r t) ≡ view
      decided (inr never) is =
          absurd (never i c view (linear.finished_of line r fits points i c s end view took spot.1))
      decided (inl a) is =
          let its = linear.finished_of line r fits points i c s end view took spot.1 in
          let same = operations.same_scan r fits i a.process c a.call s view a.view its a.finished in
          let here : t ≡ a.point = sym spot.2 ∙ linear.point_is line r fits points s (inl a) is in
          ap (λ u. values (state r u)) here ∙ a.held ∙ sym same.2

  happens : (a : Action) (i c t s : ℕ) (end : Option ℕ) → TookPlace r i c end a → Spot a i c end t s →
      HappensAt line r i c a t
  happens (Sets word value) i c t s end took spot = (spot.1, spot.2)
  happens (Sees view) i c t s end took spot = seen_at i c t s end view took spot

  takes_place : (o : Operation) (t s : ℕ) → Placed t s o → TakesPlaceAt line r o t
  takes_place o t s p = record {
    called = p.called;
    within = p.last;
    not_ended = p.open_still;
    happens = happens o.action o.process o.call t s o.end p.operation p.spot;
  }

  -- the places of operations that have spots
  pub places : (os : List Operation) → AllByRecursion Stands os → List ℕ
  places [] h = []
  places (o ∷ os) h = h.0.0 ∷ places os h.1

  each : (os : List Operation) (h : AllByRecursion Stands os) → AllZip (TakesPlaceAt line r) os (places os h)
  unfolding places
  each [] h = tt
  each (o ∷ os) h = (takes_place o h.0.0 h.0.1 h.0.2, each os h.1)

  -- an operation that follows another one takes place no sooner
  no_sooner : (a b : Operation) (p : Stands a) (q : Stands b) → Follows a b → p.0 ≤ q.0
  no_sooner a b p q f =
      let first = linear.one_spot line r fits points a p.0 p.1 f.0 f.1 p.2 f.4 in
      let second = linear.one_spot line r fits points b q.0 q.1 f.2 f.3 q.2 f.5 in
      let le : f.0 ≤ f.2 = sooner_item_le f.0 f.1 f.2 f.3 f.6 in
      omega arith

  none_sooner : (a : Operation) (p : Stands a) (os : List Operation) (h : AllByRecursion Stands os) →
      AllByRecursion (Follows a) os → AllByRecursion (λ u. p.0 ≤ u) (places os h)
  unfolding places
  none_sooner a p [] h follows = tt
  none_sooner a p (o ∷ os) h follows = (no_sooner a o p h.0 follows.0, none_sooner a p os h.1 follows.1)

  rising : (os : List Operation) (h : AllByRecursion Stands os) → Pairs Follows os →
      AllPairs (λ u v. u ≤ v) (places os h)
  unfolding places
  rising [] h pairs = λ i j d lt short. absurd (omega arith)
  rising (o ∷ os) h pairs =
      AllPairs-cons (λ u v. u ≤ v) h.0.0 (places os h.1)
      (All-from_recursion (λ u. h.0.0 ≤ u) (places os h.1) (none_sooner o h.0 os h.1 pairs.0)) (rising os h.1 pairs.1)

  -- what takes place is there
  complete : (os : List Operation) → Ordered os → (i c : ℕ) (end : Option ℕ) (a : Action) (t : ℕ) →
      IsOperation r (record { process = i; call = c; end = end; action = a }) →
      TakesPlaceAt line r (record { process = i; call = c; end = end; action = a }) t →
      Contains os (record { process = i; call = c; end = end; action = a })
  complete os h i c end (Sets word value) t took at =
      let o : Operation = record { process = i; call = c; end = end; action = Sets word value } in
      let p : Placed t 0 o = record {
        operation = took;
        called = at.called;
        last = at.within;
        open_still = at.not_ended;
        spot = (refl, at.happens.0, at.happens.1);
      } in
      h.has o t 0 p (inl (omega arith))
  complete os h i c None (Sees view) t took at = absurd took
  complete os h i c (Some e) (Sees view) t took at =
      let o : Operation = record { process = i; call = c; end = Some e; action = Sees view } in
      linear.complete line r fits points os h o took (e, refl)

  pub is_placed : (os : List Operation) (h : Ordered os) → IsPlacedLinearization line r os (places os h.placed)
  is_placed os h = record {
    linearization = linear.is_linearization line r fits points os h;
    each = each os h.placed;
    in_order = non_decreasing (places os h.placed) (rising os h.placed h.pairs);
    complete = λ o t took at. complete os h o.process o.call o.end o.action t took at;
  }

pub placed_by_points : PlacedByPoints
placed_by_points line r points fits =
    let x = linear.ordered line r fits points (length r.items) (omega arith) in
    (x.0, places line r fits points x.0 x.1.placed, is_placed line r fits points x.0 x.1)
