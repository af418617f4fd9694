-- The linearizations of a run are those of what its threads are told.
use Rattle.std.proofs.lemmas.List.Elements.{All-weaker}
use Rattle.snap_runs.specs.Operation.{IsOperation}
use Rattle.snap_history_laws.specs.threads.Told.{IsToldOperation, told_in}
use Rattle.snap_history_laws.specs.threads.RunLaws.{LinearizationsAreTold}
use Rattle.snap_history_laws.proofs.threads.Operations.{operations_are_told}

pub linearizations_are_told : LinearizationsAreTold
linearizations_are_told r fits os =
    let told = operations_are_told r fits in (
      λ h. record {
        took_place = All-weaker (IsOperation r) (IsToldOperation (told_in r)) (λ o. (told o).0) os h.took_place;
        once = h.once;
        complete = λ o is. h.complete o ((told o).1 is);
        order = h.order;
        runs = h.runs;
      },
      λ h. record {
        took_place = All-weaker (IsToldOperation (told_in r)) (IsOperation r) (λ o. (told o).1) os h.took_place;
        once = h.once;
        complete = λ o is. h.complete o ((told o).0 is);
        order = h.order;
        runs = h.runs;
      },
    )
