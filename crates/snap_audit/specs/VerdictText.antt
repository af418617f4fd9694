-- The printed text of an audit: a line for the verdict on each answered scan, with its point and its double collects.
use Rattle.std.specs.Prelude.{ℕ, List, [], ◌∷◌, ◌++◌, Option, Some, None, codes, decimal}
use Rattle.snap_runs.specs.Audit.{audit}
use Rattle.snap_runs.specs.Run.{Run}
use Rattle.snap_runs.specs.declared.verdict.Verdict.{Verdict}

-- a point, or that there is none
abbrev pub point_text : Option ℕ → List ℕ
point_text None = codes "none"
point_text (Some t) = decimal t

-- `scan I call C answer E point P collects N`
abbrev pub verdict_line : Verdict → List ℕ
verdict_line v =
    codes "scan " ++ decimal v.process ++ codes " call " ++ decimal v.call ++ codes " answer " ++ decimal v.answer
    ++ codes " point " ++ point_text v.point
    ++ codes " collects " ++ decimal v.collects ++ codes "\n"

abbrev pub verdict_lines : List Verdict → List ℕ
verdict_lines [] = []
verdict_lines (v ∷ vs) = verdict_line v ++ verdict_lines vs

-- the verdicts of a run
abbrev pub audit_text : Run → List ℕ
audit_text r = verdict_lines (audit r)
