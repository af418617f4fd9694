-- `HasCounted`: the steps of the first items of a run are counted, and which processes are busy behind them is known.
use Rattle.std.specs.Prelude.{◌≡◌, ℕ, ◌-◌, ◌<◌, ◌≤◌, Bool, false, List, length, drop, get_or}
use Rattle.snap_words.specs.Shape.{IsOneOf, max_items}
use Rattle.snap_semantics.specs.State.{process_at}
use Rattle.snap_runs.specs.Run.{IsValidRun, Run, state}
use Rattle.snap_walk.specs.Walk.{IsUntold, way}
use Rattle.snap_walk.specs.Walking.{is_busy}
use Rattle.snap_hunt.specs.Watching.{CountsSteps}
use Rattle.snap_hunt.specs.declared.step_counter.StepCounter.{StepCounter}

-- The steps of the first t items of a run are counted.
pub record HasCounted (r : Run) (most t : ℕ) (c : StepCounter) : Type 0 where
  pub valid : IsValidRun r
  pub few : length r.items ≤ max_items
  pub done : c.done ≡ t
  pub most_is : c.most ≡ most
  pub within : t ≤ length r.items
  pub left : c.ahead ≡ drop t r.items
  pub steps : CountsSteps r most t c.owns.items c.overrun
  pub count : length c.busy.items ≡ r.shape.n
  pub busy : (i : ℕ) → IsOneOf r.shape.n i → (d : Bool) →
      get_or c.busy.items (i - 1) d ≡ is_busy (process_at (state r t) i).status

-- A walk passes over the items of a run behind one number up to another.
abbrev pub AreUntold : List Bool → Run → (from until : ℕ) → Type 0
AreUntold quiet r from until = (t : ℕ) → from ≤ t → t < until → IsUntold quiet false (way r t)
