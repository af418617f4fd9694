-- What is said of an item, from the verdict of the scan that it answers, or from the trap or nothing at it.
use Rattle.std.proofs.Common.{◌≡◌, ℕ, List, Option}
use Rattle.snap_text.specs.Drafted.{Adds, Drafted}
use Rattle.snap_runs.specs.Audit.{audit}
use Rattle.snap_runs.specs.Run.{Run}
use Rattle.snap_runs.specs.declared.verdict.Verdict.{Verdict}
use Rattle.snap_acts.specs.Trace.{trace_of}
use Rattle.snap_acts.specs.declared.act.TraceStep.{TraceStep}
use Rattle.snap_why.specs.Answer.{verdict_with}
use Rattle.snap_why.specs.Why.{IsToldOf, IsWhy}

pub is_told : (r : Run) (t : ℕ) (ss : List TraceStep) (vs : List Verdict) (found : Option Verdict) (text : List ℕ) →
    ss ≡ trace_of r → vs ≡ audit r → found ≡ verdict_with vs t → IsToldOf r ss t found text →
    (old new : Drafted) → Adds old new text → (text : List ℕ) × IsWhy r t text × Adds old new text
unfolding IsWhy
is_told r t ss vs found text is_trace is_audit finds told old new adds =
    (text, rw (← is_trace, ← is_audit, ← finds) told, adds)
