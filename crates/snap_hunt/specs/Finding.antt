-- `Finds`: what a search for failures comes to in a run. A search may leave it undecided whether the run is
-- linearizable, so what is found is not a function of the run alone.
use Rattle.std.specs.Prelude.{◌≡◌, ℕ, Bool, true, false, ◌⊎◌, Option, Some, None}
use Rattle.snap_semantics.specs.Rules.{or_else}
use Rattle.snap_semantics.specs.declared.event.Event.{Event}
use Rattle.snap_runs.specs.Run.{Run}
use Rattle.snap_judge.specs.Judgement.{FailsAt}
use Rattle.snap_judge.specs.Linearizable.{IsLinearizableHistory, last_of}
use Rattle.snap_judge.specs.declared.judgements.Failing.TheVariants as failing
use Rattle.snap_run_judge.specs.RunHistory.{history_of}
use Rattle.snap_run_judge.specs.RunJudgement.{IsRunJudgement, most_configurations}
use Rattle.snap_hunt.specs.declared.failures.Failure.{Failure}
use Rattle.snap_hunt.specs.declared.failures.Failure.TheVariants as failure
use Rattle.snap_hunt.specs.declared.failures.Wanted.{Wanted}
use Rattle.snap_hunt.specs.Failing.{first_seen}

-- event number k of a run, counted from 1
abbrev pub event_at : Run → ℕ → Event
event_at r k = last_of k (history_of r)

-- that a run fails at its event number k
abbrev pub failure_at : Run → ℕ → Failure
failure_at r k = failure.NotLinearizable (event_at r k).process (event_at r k).item

-- More configurations than a search may meet were met, so that it is not decided whether the history of the run is
-- linearizable.
abbrev pub IsUndecided : Run → Type 0
IsUndecided r = (k : ℕ) × IsRunJudgement most_configurations r (failing.Undecided k)

-- What is found of linearizability is so: the history of the run is not linearizable, and fails at this event. Where
-- nothing is found it is linearizable, or that is not decided.
abbrev pub IsJudged : Run → Option Failure → Type 0
IsJudged r (Some f) = (k : ℕ) × FailsAt (history_of r) k × (f ≡ failure_at r k)
IsJudged r None = IsLinearizableHistory (history_of r) ⊎ IsUndecided r

-- the failure that a run is not linearizable, if it is wanted
abbrev pub IsJudgedIf : Bool → Run → Option Failure → Type 0
IsJudgedIf true r found = IsJudged r found
IsJudgedIf false r found = found ≡ None

-- What is found in a run is that it is not linearizable, where that is asked for and found, and else the first that is
-- seen of the other failures that are asked for.
pub record Finds (w : Wanted) (r : Run) (found : Option Failure) : Type 0 where
  pub judged : Option Failure
  pub is_judged : IsJudgedIf w.linearizable r judged
  pub is : found ≡ or_else judged (first_seen w r)

-- something is found
abbrev pub FindsSome : Wanted → Run → Type 0
FindsSome w r = (f : Failure) × Finds w r (Some f)
