-- `Steady`: a run in which no process crashes, and each item is of one of the processes.
use Rattle.std.specs.List.{AllByRecursion}
use Rattle.snap_runs.proofs.Common.{IsOneOf, Item, Crash, who, Run, IsValidRun}

-- a step or a call
abbrev pub IsNoCrash : Item → Type 0
IsNoCrash (Crash i) = ⊥
IsNoCrash _ = Unit {0}

-- a run that fits, without crashes
pub record Steady (r : Run) : Type 0 where
  pub all : AllByRecursion (λ x. IsOneOf r.shape.n (who x)) r.items
  pub steady : AllByRecursion IsNoCrash r.items

pub fits_of : (r : Run) → Steady r → IsValidRun r
fits_of r h = record { all = h.all }
