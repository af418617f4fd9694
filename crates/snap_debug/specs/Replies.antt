-- Parts of a debugger session's replies: the line of the last item and its outcome, and the machine at the session's
-- position.
use Rattle.std.specs.Prelude.{ℕ, zero, suc, List, ◌++◌, Option, Some, None, codes, decimal}
use Rattle.snap_semantics.specs.declared.process.Outcome.{Outcome}
use Rattle.snap_semantics.specs.Table.{who}
use Rattle.snap_machine.specs.Configuration.{Configuration}
use Rattle.snap_report.specs.OutcomeText.{outcome_text}
use Rattle.snap_runs.specs.Run.{Run, item, outcome}
use Rattle.snap_debug.specs.Session.{Session, state_of}

-- the process of the last item and what came of it, where there is one
abbrev pub last_of : Run → ℕ → Option (ℕ × Outcome)
last_of r zero = None
last_of r (suc t) = Some (who (item r (suc t)), outcome r (suc t))

-- the last item and its line
abbrev pub last_text : Option (ℕ × Outcome) → List ℕ
last_text None = codes "last none\n"
last_text (Some o) = codes "last " ++ decimal o.0 ++ codes " " ++ outcome_text o.1 ++ codes "\n"

-- the machine at a session's position
abbrev pub machine_of : Session → Configuration
machine_of s = record { source = s.run.source; shape = s.run.shape; state = state_of s }
