-- `before_report` and `report_in`: what is printed of a live run, cut into the schedule and the report of its end.
use Rattle.std.specs.Prelude.{ℕ, Bool, List, [], ◌∷◌, ◌++◌, bytes_eq, codes, drop, if◌then◌else◌, length, take}
use Rattle.snap_input.specs.Parts.{full_lines}

-- whether a line begins a report
abbrev pub begins_report : List ℕ → Bool
begins_report line = bytes_eq (take 9 line) (codes "report at")

-- the lines before the first one that begins a report
abbrev pub lines_before_report : List (List ℕ) → List ℕ
lines_before_report [] = []
lines_before_report (line ∷ lines) = if begins_report line then [] else line ++ lines_before_report lines

-- what stands before the report, and the report
abbrev pub before_report : List ℕ → List ℕ
before_report text = lines_before_report (full_lines text)

abbrev pub report_in : List ℕ → List ℕ
report_in text = drop (length (before_report text)) text
