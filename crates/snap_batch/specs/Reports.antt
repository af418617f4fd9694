-- `reports_text`: the reports of a batch of schedules, each after the line with its number.
use Rattle.std.specs.Prelude.{ℕ, ◌+◌, List, [], ◌∷◌, ◌++◌, codes, decimal}

-- a report behind the line of its number
abbrev pub numbered_report : ℕ → List ℕ → List ℕ
numbered_report k report = codes "schedule " ++ decimal k ++ codes "\n" ++ report

-- reports, the first of which has number k
abbrev pub reports_text : ℕ → List (List ℕ) → List ℕ
reports_text k [] = []
reports_text k (report ∷ reports) = numbered_report k report ++ reports_text (k + 1) reports
