-- The operations and the linearizations of a run are those of which its threads are told: `OperationsAreTold`,
-- `LinearizationsAreTold`.
use Rattle.std.specs.Prelude.{◌↔◌, List}
use Rattle.snap_runs.specs.Linearization.{IsLinearization}
use Rattle.snap_runs.specs.Operation.{IsOperation, Operation}
use Rattle.snap_runs.specs.Run.{IsValidRun, Run}
use Rattle.snap_history_laws.specs.threads.Told.{IsToldLinearization, IsToldOperation, told_in}

-- The operations of a run are those of which its threads are told.
abbrev pub OperationsAreTold : Type 0
OperationsAreTold = (r : Run) → IsValidRun r → (o : Operation) → IsOperation r o ↔ IsToldOperation (told_in r) o

-- The linearizations of a run are those of what its threads are told.
abbrev pub LinearizationsAreTold : Type 0
LinearizationsAreTold = (r : Run) → IsValidRun r → (os : List Operation) →
    IsLinearization r os ↔ IsToldLinearization r.shape.w (told_in r) os
