-- The events of items are of these items: none is of an item before the first of them.
use Rattle.std.proofs.Common.{ℕ, ◌+◌, ◌≤◌, List, [], ◌∷◌, arith}
use Rattle.std.specs.List.{AllByRecursion}
use Rattle.snap_words.specs.Shape.{Counts}
use Rattle.snap_semantics.specs.Run.{events, event_of}
use Rattle.snap_semantics.specs.Source.{Source}
use Rattle.snap_semantics.specs.State.{State}
use Rattle.snap_semantics.specs.Table.{done}
use Rattle.snap_semantics.specs.declared.event.Event.{Event}
use Rattle.snap_semantics.specs.declared.process.Item.{Item}
use Rattle.snap_semantics.specs.declared.process.Outcome.{Outcome}
use Rattle.snap_record.proofs.Longer.{event_has, join_all}

-- an event of item t is not before it
event_after : (t u : ℕ) (x : Item) (o : Outcome) → t ≤ u → AllByRecursion (λ (e : Event). t ≤ e.item) (event_of u x o)
event_after t u x o le = event_has (λ (e : Event). t ≤ e.item) u x o (λ e at _. omega (arith, le, at))

-- nor are the events of later items
pub events_after : (s : Source) (n : Counts) (S : State) (t u : ℕ) (xs : List Item) → t ≤ u →
    AllByRecursion (λ (e : Event). t ≤ e.item) (events s n S u xs)
events_after s n S t u [] le = tt
events_after s n S t u (x ∷ xs) le =
    join_all (λ (e : Event). t ≤ e.item) (event_of u x (done s n S x).1) (events s n (done s n S x).0 (u + 1) xs)
    (event_after t u x (done s n S x).1 le)
    (events_after s n (done s n S x).0 t (u + 1) xs (omega (arith, le)))
