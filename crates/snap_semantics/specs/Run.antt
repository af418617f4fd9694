-- `after` and `events`: the state after a list of items, and the events of these items.
use Rattle.std.specs.Prelude.{ℕ, ◌+◌, List, [], ◌∷◌, ◌++◌}
use Rattle.snap_words.specs.Shape.{Counts}
use Rattle.snap_semantics.specs.declared.event.Event.{Event}
use Rattle.snap_semantics.specs.declared.event.Happening.TheVariants.{Call, Answer, Done, Crash}
use Rattle.snap_semantics.specs.declared.process.Item.{Item}
use Rattle.snap_semantics.specs.declared.process.Item.TheVariants as item
use Rattle.snap_semantics.specs.declared.process.Outcome.{Outcome}
use Rattle.snap_semantics.specs.declared.process.Outcome.TheVariants as outcome
use Rattle.snap_semantics.specs.Source.{Source}
use Rattle.snap_semantics.specs.State.{State}
use Rattle.snap_semantics.specs.Table.{done, who}

-- the state after these items
abbrev pub after : Source → Counts → State → List Item → State
after s shape S [] = S
after s shape S (x ∷ xs) = after s shape (done s shape S x).0 xs

-- a call at item t is an event
abbrev pub call_event : ℕ → Item → List Event
call_event t (item.Step i) = []
call_event t (item.Call i op) = record { item = t; process = i; what = Call op } ∷ []
call_event t (item.Crash i) = []

-- the event of item t, where it has one
abbrev pub event_of : ℕ → Item → Outcome → List Event
event_of t x outcome.Called = call_event t x
event_of t x outcome.Stepped = []
event_of t x (outcome.Answered v) = record { item = t; process = who x; what = Answer v } ∷ []
event_of t x outcome.Finished = record { item = t; process = who x; what = Done } ∷ []
event_of t x (outcome.Trapped c) = []
event_of t x outcome.Crashed = record { item = t; process = who x; what = Crash } ∷ []
event_of t x (outcome.Skipped r) = []

-- the events of these items, the first of which is item t
abbrev pub events : Source → Counts → State → ℕ → List Item → List Event
events s shape S t [] = []
events s shape S t (x ∷ xs) = event_of t x (done s shape S x).1 ++ events s shape (done s shape S x).0 (t + 1) xs
