-- `IsFollowed`: what a `Followed` keeps of its run besides the items: its last state, and what callers saw.
use Rattle.std.specs.Prelude.{◌≡◌, ◌≤◌, List, length}
use Rattle.snap_words.specs.Shape.{max_items}
use Rattle.snap_words.specs.declared.kind.KindTag.{KindTag}
use Rattle.snap_semantics.specs.State.{State}
use Rattle.snap_semantics.specs.declared.event.Event.{Event}
use Rattle.snap_runs.specs.Run.{Run, IsValidRun, state, events_of}

-- a run that fits and has at most a million items, its last state, and all its events
pub record IsFollowed (r : Run) (k : KindTag) (S : State) (events : List Event) : Type 0 where
  pub kind : r.source.kind ≡ k
  pub state_is : S ≡ state r (length r.items)
  pub fits : IsValidRun r
  pub few : length r.items ≤ max_items
  pub events_are : events ≡ events_of r (length r.items)
