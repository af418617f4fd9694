-- `Takes`: a `Course`, which is a machine with the events that callers saw of its items, does some more items.
use Rattle.std.specs.Prelude.{◌≡◌, ℕ, ◌+◌, List, [], ◌++◌, length, replicate}
use Rattle.snap_words.specs.Shape.{Counts}
use Rattle.snap_semantics.specs.declared.process.Item.{Item}
use Rattle.snap_semantics.specs.Run.{after, events}
use Rattle.snap_semantics.specs.Source.{Source}
use Rattle.snap_semantics.specs.State.{State}
use Rattle.snap_batch.specs.declared.course.Course.{Course}

-- the second has done these items more than the first
pub record Takes {K W : Type 0} (c : Course K W) (xs : List Item) (c' : Course K W) : Type 0 where
  pub source : c'.machine.source ≡ c.machine.source
  pub shape : c'.machine.shape ≡ c.machine.shape
  pub state : c'.machine.state ≡ after c.machine.source c.machine.shape c.machine.state xs
  pub events : c'.events.items
      ≡ c.events.items ++ events c.machine.source c.machine.shape c.machine.state (c.done + 1) xs
  pub number : c'.done ≡ c.done + length xs

-- an item changes nothing, and callers see nothing of it, however often it comes
abbrev pub DoesNothing : Source → Counts → State → Item → Type 0
DoesNothing s n S x = (t count : ℕ) → (after s n S (replicate count x) ≡ S) × (events s n S t (replicate count x) ≡ [])
