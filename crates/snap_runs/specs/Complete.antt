-- An audit is complete: it has the verdict of each finished scan of a run, in the order of the answers.
use Rattle.std.specs.Prelude.{ℕ, ◌<◌, List, None}
use Rattle.std.specs.List.{AllPairs, Contains}
use Rattle.snap_runs.specs.Audit.{audit, verdict_of}
use Rattle.snap_runs.specs.Run.{Run, IsValidRun}
use Rattle.snap_runs.specs.Scan.{FinishedScan}
use Rattle.snap_runs.specs.declared.verdict.Verdict.{Verdict}

-- Each finished scan has its verdict.
abbrev pub ScansHaveVerdicts : Run → Type 0
ScansHaveVerdicts r =
    IsValidRun r → (i c e : ℕ) (view : List ℕ) → FinishedScan r i None c e view →
    Contains (audit r) (verdict_of r i c e view)

-- Each verdict's answer is before those of the verdicts after it.
abbrev pub AnswersRise : Run → Type 0
AnswersRise r = AllPairs (λ (v w : Verdict). v.answer < w.answer) (audit r)
