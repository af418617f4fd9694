-- Soundness of the lint (`TrapsAreWarnedOf`, `SilentNeverTraps`): in no run does a process trap, for a cause that has
-- a `Concern`, at a line without that warning.
use Rattle.std.specs.Prelude.{◌≡◌, ◌≢◌, ℕ, List, length, Option, Some, None}
use Rattle.std.specs.List.{All, AllByRecursion, Contains}
use Rattle.snap_words.specs.Shape.{Counts, IsOneOf}
use Rattle.snap_lint.specs.declared.concern.Concern.{Concern}
use Rattle.snap_lint.specs.declared.concern.Concern.TheVariants as concern
use Rattle.snap_lint.specs.declared.concern.Warning.{Warning}
use Rattle.snap_semantics.specs.declared.process.Activity.{Activity}
use Rattle.snap_semantics.specs.declared.process.Cause.{Cause}
use Rattle.snap_semantics.specs.declared.process.Cause.TheVariants as cause
use Rattle.snap_semantics.specs.declared.process.Item.{Item}
use Rattle.snap_semantics.specs.declared.process.Outcome.TheVariants as outcome
use Rattle.snap_semantics.specs.declared.process.Status.TheVariants.{Trapped}
use Rattle.snap_semantics.specs.IsListing.{IsListing}
use Rattle.snap_semantics.specs.Source.{Source}
use Rattle.snap_semantics.specs.State.{process_at}
use Rattle.snap_semantics.specs.Table.{who}
use Rattle.snap_runs.specs.Run.{run_of_items, state, outcome}
use Rattle.snap_lint.specs.Warnings.{warnings}

-- the concern that a cause of traps is, where the flow of control can tell
abbrev pub concern_of : Cause → Option Concern
concern_of cause.Index = None
concern_of cause.Overflow = None
concern_of cause.NotABit = None
concern_of cause.Owner = Some concern.Owner
concern_of cause.Nested = Some concern.Nested
concern_of cause.BadEnd = Some concern.BadEnd
concern_of cause.OffEnd = Some concern.OffEnd

-- a line is warned of, wherever the cause is one that the flow of control can tell
abbrev pub IsWarnedOf : Source → ℕ → Cause → Type 0
IsWarnedOf l line why =
    (c : Concern) → concern_of why ≡ Some c → Contains (warnings l) (record { line = line; concern = c })

-- each item is of one of the processes, as reading a schedule makes sure
abbrev pub AreOfProcesses : Counts → List Item → Type 0
AreOfProcesses shape items = AllByRecursion (λ x. IsOneOf shape.n (who x)) items

-- After t items of any schedule: where process i has trapped, the line at which it stands is warned of.
abbrev pub TrapsAreWarnedOf : Type 0
TrapsAreWarnedOf =
    (l : Source) → IsListing l → (shape : Counts) (items : List Item) → AreOfProcesses shape items →
    (t i : ℕ) (why : Cause) (a : Activity) →
    (process_at (state (run_of_items l shape items) t) i).status ≡ Trapped why a → IsWarnedOf l a.line why

-- nothing is said of a concern
abbrev pub SaysNothingOf : Concern → List Warning → Type 0
SaysNothingOf c ws = All (λ (w : Warning). w.concern ≢ c) ws

-- Where nothing is said of a concern, no item of any schedule traps for it.
abbrev pub SilentNeverTraps : Type 0
SilentNeverTraps =
    (l : Source) → IsListing l → (c : Concern) → SaysNothingOf c (warnings l) →
    (why : Cause) → concern_of why ≡ Some c →
    (shape : Counts) (items : List Item) → AreOfProcesses shape items →
    (t : ℕ) → IsOneOf (length items) t → outcome (run_of_items l shape items) t ≢ outcome.Trapped why
