-- A run: a listing, a shape and a list of items, with its states and outcomes.
use Rattle.std.specs.Prelude.{ℕ, zero, suc, List, take, slice_index_or}
use Rattle.std.specs.List.{AllByRecursion}
use Rattle.snap_words.specs.Shape.{Counts, IsOneOf}
use Rattle.snap_semantics.specs.declared.process.Item.{Item}
use Rattle.snap_semantics.specs.declared.process.Item.TheVariants.{Step}
use Rattle.snap_semantics.specs.declared.process.Outcome.{Outcome}
use Rattle.snap_semantics.specs.declared.event.Event.{Event}
use Rattle.snap_semantics.specs.Schedule.{Schedule}
use Rattle.snap_semantics.specs.Source.{Source}
use Rattle.snap_semantics.specs.State.{State, initial}
use Rattle.snap_semantics.specs.Table.{done, who}
use Rattle.snap_semantics.specs.Run.{after, events}

pub record Run : Type 0 where
  pub source : Source
  pub shape : Counts
  pub items : List Item

-- the run of a listing and a shape over these items
abbrev pub run_of_items : Source → Counts → List Item → Run
run_of_items source shape items = record { source = source; shape = shape; items = items }

-- the run of a listing over a schedule
abbrev pub run_over : Source → Schedule → Run
run_over l s = record { source = l; shape = s.shape; items = s.items }

-- the state after t items
abbrev pub state : Run → ℕ → State
state r t = after r.source r.shape (initial r.source r.shape) (take t r.items)

-- the state before item t
abbrev pub before : Run → ℕ → State
before r zero = state r 0
before r (suc t) = state r t

-- item t, counted from 1
abbrev pub item : Run → ℕ → Item
item r zero = Step 0
item r (suc t) = slice_index_or r.items t (Step 0)

-- what comes of item t
abbrev pub outcome : Run → ℕ → Outcome
outcome r t = (done r.source r.shape (before r t) (item r t)).1

-- the events of the first t items
abbrev pub events_of : Run → ℕ → List Event
events_of r t = events r.source r.shape (initial r.source r.shape) 1 (take t r.items)

-- Each item is of one of the processes. A run may be as long as it likes.
pub record IsValidRun (r : Run) : Type 0 where
  pub all : AllByRecursion (λ x. IsOneOf r.shape.n (who x)) r.items
