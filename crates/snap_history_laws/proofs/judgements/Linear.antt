-- A run and its history have the same linearizations.
use Rattle.std.proofs.Common.{List}
use Rattle.std.proofs.lemmas.List.Elements.{All-weaker}
use Rattle.snap_runs.specs.Linearization.{IsLinearization}
use Rattle.snap_runs.specs.Operation.{IsOperation, Operation}
use Rattle.snap_runs.specs.Run.{IsValidRun, Run}
use Rattle.snap_judge.specs.Linearizable.{IsLinearizationOf, IsOperationOf}
use Rattle.snap_run_judge.specs.RunHistory.{history_of}
use Rattle.snap_history_laws.specs.events.EventLaws.{EventsTellOperations}
use Rattle.snap_history_laws.specs.judgements.RunLaws.{RunsAreToldByTheirHistories}
use Rattle.snap_history_laws.proofs.judgements.Matching.{from_history, to_history}

module _ (tell : EventsTellOperations) (r : Run) (fits : IsValidRun r) (os : List Operation) where
  of_history : IsLinearization r os → IsLinearizationOf (history_of r) os
  of_history h = record {
    took_place = All-weaker (IsOperation r) (IsOperationOf (history_of r)) (to_history tell r fits) os h.took_place;
    once = h.once;
    complete = λ o is. h.complete o (from_history tell r fits o is);
    order = h.order;
    runs = h.runs;
  }

  of_run : IsLinearizationOf (history_of r) os → IsLinearization r os
  of_run h = record {
    took_place = All-weaker (IsOperationOf (history_of r)) (IsOperation r) (from_history tell r fits) os h.took_place;
    once = h.once;
    complete = λ o is. h.complete o (to_history tell r fits o is);
    order = h.order;
    runs = h.runs;
  }

pub runs_are_told : EventsTellOperations → RunsAreToldByTheirHistories
runs_are_told tell r fits = record {
  operations = λ o. (to_history tell r fits o, from_history tell r fits o);
  linearizations = λ os. (of_history tell r fits os, of_run tell r fits os);
  linearizable =
      (λ h. ((h fits).0, of_history tell r fits (h fits).0 (h fits).1), λ l valid. (l.0, of_run tell r fits l.0 l.1));
}
