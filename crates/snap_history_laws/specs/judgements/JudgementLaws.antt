-- What is judged of the history of a run is so of the run.
use Rattle.std.specs.Prelude.{◌≡◌, ℕ, ◌-◌, ⊤, Some, length, map, slice_get, take}
use Rattle.snap_words.specs.Shape.{IsOneOf}
use Rattle.snap_semantics.specs.IsListing.{IsListing}
use Rattle.snap_semantics.specs.declared.event.Event.{Event}
use Rattle.snap_runs.specs.Linearization.{IsLinearizable, IsLinearization}
use Rattle.snap_runs.specs.Run.{IsValidRun, Run, events_of, run_of_items}
use Rattle.snap_judge.specs.Judgement.{IsJudgement}
use Rattle.snap_judge.specs.Kept.{operation_of}
use Rattle.snap_judge.specs.declared.judgements.Failing.{Failing}
use Rattle.snap_judge.specs.declared.judgements.Failing.TheVariants as failing
use Rattle.snap_judge.specs.declared.judgements.Judgement.{Judgement}
use Rattle.snap_judge.specs.declared.judgements.Judgement.TheVariants as judgement
use Rattle.snap_run_judge.specs.RunHistory.{history_of}
use Rattle.snap_run_judge.specs.RunJudgement.{IsRunJudgement}

-- the run up to its item t
abbrev pub run_up_to : ℕ → Run → Run
run_up_to t r = run_of_items r.source r.shape (take t r.items)

-- A run fails at an item: up to it the run is not linearizable, up to the item before it is, and the whole is not.
pub record FailsAtItem (r : Run) (t : ℕ) : Type 0 where
  pub is_item : IsOneOf (length r.items) t
  pub before : IsLinearizable (run_up_to (t - 1) r)
  pub fails : IsLinearizable (run_up_to t r) → ⊥
  pub whole : IsLinearizable r → ⊥

-- A run fails where this is said: it is linearizable, or it fails at the item of that event.
abbrev pub FailsThere : Run → Failing → Type 0
FailsThere r failing.Nowhere = IsLinearizable r
FailsThere r (failing.At k) =
    (e : Event) × (slice_get (events_of r (length r.items)) (k - 1) ≡ Some e) × FailsAtItem r e.item
FailsThere r (failing.Undecided k) = ⊤

-- What is judged of a run is so: the order is a linearization of it, or the run fails where this is said.
abbrev pub IsSoOf : Run → Judgement → Type 0
IsSoOf r (judgement.Linearizable order) = IsLinearization r (map operation_of order.items)
IsSoOf r (judgement.NotLinearizable k) = FailsThere r (failing.At k)
IsSoOf r (judgement.Undecided k) = ⊤

-- Where the history of a run is said to fail, the run fails.
abbrev pub FailingsAreOfRuns : Type 0
FailingsAreOfRuns = (most : ℕ) (r : Run) (f : Failing) → IsListing r.source → IsValidRun r →
    IsRunJudgement most r f → FailsThere r f

-- What is judged of the history of a run is so of the run.
abbrev pub JudgementsAreOfRuns : Type 0
JudgementsAreOfRuns = (most : ℕ) (r : Run) (j : Judgement) → IsListing r.source → IsValidRun r →
    IsJudgement most (history_of r) j → IsSoOf r j
