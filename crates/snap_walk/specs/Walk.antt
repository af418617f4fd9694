-- `Way`: how far a machine has come in a run; and what it passes there, item by item (`Passes`), or from one item that
-- is told to the next (`Tells`).
use Rattle.std.specs.Prelude.{◌≡◌, ℕ, suc, ◌<◌, ◌≤◌, Bool, true, false, not, List, length, Option, Some, None}
use Rattle.std.specs.Prelude.{if◌then◌else◌, slice_index_or}
use Rattle.snap_words.specs.Shape.{IsOneOf}
use Rattle.snap_semantics.specs.State.{process_at}
use Rattle.snap_semantics.specs.Table.{who}
use Rattle.snap_semantics.specs.declared.process.Activity.{Activity}
use Rattle.snap_semantics.specs.declared.process.Item.{Item}
use Rattle.snap_semantics.specs.declared.process.Item.TheVariants.{Step}
use Rattle.snap_semantics.specs.declared.process.Outcome.{Outcome}
use Rattle.snap_semantics.specs.declared.process.Outcome.TheVariants as outcome
use Rattle.snap_semantics.specs.declared.process.Status.{Status}
use Rattle.snap_semantics.specs.declared.process.Status.TheVariants.{Idle, Busy, Trapped, Crashed}
use Rattle.snap_runs.specs.Run.{Run, item, outcome as outcome_at, state}
use Rattle.snap_walk.specs.Glance.{Glance}
use Rattle.snap_walk.specs.Glance as looks
use Rattle.snap_walk.specs.declared.passed.Passed.{Passed}

-- a machine on its way through a run: the run, and how many of its items it has done
pub record Way : Type 0 where
  pub run : Run
  pub at : ℕ

-- one item further
abbrev pub further : Way → Way
further w = record { run = w.run; at = suc w.at }

-- The next item was passed: the item with its number, and what came of it.
pub record Passes (w : Way) (p : Passed) (w' : Way) : Type 0 where
  pub left : w.at < length w.run.items
  pub number : p.number ≡ suc w.at
  pub item : p.item ≡ item w.run (suc w.at)
  pub process : IsOneOf w.run.shape.n (who p.item)
  pub outcome : p.outcome ≡ outcome_at w.run (suc w.at)
  pub way : w' ≡ further w

-- whether a line is quiet, where this is said of the lines by their numbers
abbrev pub is_quiet : List Bool → ℕ → Bool
is_quiet quiet line = slice_index_or quiet line false

-- what is seen of a step before it is done, by how its process stands
abbrev pub look_at_step : List Bool → Status → Glance
look_at_step quiet Idle = looks.Idle
look_at_step quiet (Busy a) = if is_quiet quiet a.line then looks.Quiet else looks.Line a
look_at_step quiet (Trapped cause a) = looks.Idle
look_at_step quiet (Crashed was) = looks.Idle

-- what is seen of an item
abbrev pub look : List Bool → Item → Status → Glance
look quiet (Step i) s = look_at_step quiet s
look quiet _ s = looks.Other

-- whether a step that ended so is at a quiet line
abbrev pub is_at_quiet : Glance → Bool
is_at_quiet looks.Quiet = true
is_at_quiet _ = false

-- whether an item is passed over: a step that goes on from a quiet line, and a skipped item where those are not told
abbrev pub is_untold : Glance → Outcome → (tells_skips : Bool) → Bool
is_untold l outcome.Stepped tells_skips = is_at_quiet l
is_untold l (outcome.Skipped reason) tells_skips = not tells_skips
is_untold l _ tells_skips = false

-- what is told of the line that an item runs: what its process was at, where the line is not quiet
abbrev pub line_told : Glance → Option Activity
line_told (looks.Line a) = Some a
line_told _ = None

-- what is seen of the next item on a way
abbrev pub look_ahead : List Bool → Way → Glance
look_ahead quiet w =
    look quiet (item w.run (suc w.at)) (process_at (state w.run w.at) (who (item w.run (suc w.at)))).status

-- the next item on a way is passed over
pub record IsUntold (quiet : List Bool) (tells_skips : Bool) (w : Way) : Type 0 where
  pub left : w.at < length w.run.items
  pub process : IsOneOf w.run.shape.n (who (item w.run (suc w.at)))
  pub untold : is_untold (look_ahead quiet w) (outcome_at w.run (suc w.at)) tells_skips ≡ true

-- of this run so many items are done
abbrev pub way : Run → ℕ → Way
way r t = record { run = r; at = t }

-- From one place on a way to the other, all items are passed over.
pub record PassesOver (quiet : List Bool) (tells_skips : Bool) (w v : Way) : Type 0 where
  pub run : v.run ≡ w.run
  pub order : w.at ≤ v.at
  pub untold : (t : ℕ) → w.at ≤ t → t < v.at → IsUntold quiet tells_skips (way w.run t)

-- The next item was passed that is told, and those before it were passed over.
pub record Tells (quiet : List Bool) (tells_skips : Bool) (w : Way) (p : Passed) (w' : Way) : Type 0 where
  pub between : Way
  pub over : PassesOver quiet tells_skips w between
  pub passes : Passes between p w'
  pub told : is_untold (look_ahead quiet between) p.outcome tells_skips ≡ false
  pub activity : p.activity ≡ line_told (look_ahead quiet between)

-- No further item is told: all that are left were passed over.
pub record TellsNone (quiet : List Bool) (tells_skips : Bool) (w w' : Way) : Type 0 where
  pub over : PassesOver quiet tells_skips w w'
  pub end : w'.at ≡ length w'.run.items

-- whether item t is skipped
abbrev pub is_skip : Outcome → Bool
is_skip (outcome.Skipped reason) = true
is_skip _ = false

abbrev pub is_skipped : Run → ℕ → Bool
is_skipped r t = is_skip (outcome_at r t)
