-- `RefusesTracesAsRuns`: the tasks `trace` and `run` refuse the same inputs, for the same reasons.
use Rattle.std.specs.Prelude.{◌≡◌, ◌↔◌, ℕ, List, [], Result, Err}
use Rattle.snap_semantics.specs.declared.refusal.Refusal.{Refusal}
use Rattle.snap_tasks.specs.declared.subject.Subject.{Subject}
use Rattle.snap_tasks.specs.declared.task.Task.TheVariants as task
use Rattle.snap_output.specs.Output.{output_of}

-- two results are refused for the same reason, or neither is refused
abbrev pub AreRefusedAlike : Result (List ℕ) Refusal → Result (List ℕ) Refusal → Type 0
AreRefusedAlike x y = (r : Refusal) → (x ≡ Err r) ↔ (y ≡ Err r)

-- A trace is refused exactly where a run is, and for the same reason.
abbrev pub RefusesTracesAsRuns : Type 0
RefusesTracesAsRuns =
    (s : Subject) (input : List ℕ) → AreRefusedAlike (output_of [] (task.Trace s) input) (output_of [] (task.Run s) input)
