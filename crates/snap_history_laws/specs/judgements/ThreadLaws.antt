-- What the threads of a run are told, each of its own process, and the history of the run tell of the same operations.
use Rattle.std.specs.Prelude.{◌↔◌}
use Rattle.snap_runs.specs.Operation.{Operation}
use Rattle.snap_runs.specs.Run.{IsValidRun, Run}
use Rattle.snap_history_laws.specs.threads.Told.{IsToldOperation, told_in}
use Rattle.snap_judge.specs.Linearizable.{IsOperationOf}
use Rattle.snap_run_judge.specs.RunHistory.{history_of}

abbrev pub ThreadsAreToldTheHistory : Type 0
ThreadsAreToldTheHistory = (r : Run) → IsValidRun r → (o : Operation) →
    IsToldOperation (told_in r) o ↔ IsOperationOf (history_of r) o
