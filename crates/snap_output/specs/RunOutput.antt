-- `run_listing`: what is written for a listing and a schedule that is run to its end, or why nothing is.
use Rattle.std.specs.Prelude.{ℕ, List, ◌++◌, length, Result, Ok, codes}
use Rattle.snap_semantics.specs.declared.refusal.Refusal.{Refusal}
use Rattle.snap_semantics.specs.Answers.{◌>>=◌}
use Rattle.snap_semantics.specs.Report.{position_line}
use Rattle.snap_semantics.specs.Schedule.{Schedule}
use Rattle.snap_semantics.specs.Source.{Source}
use Rattle.snap_input.specs.Parts.{part}
use Rattle.snap_input.specs.Schedules.{schedule_for}
use Rattle.snap_batch.specs.End.{end_report}

-- what a session without marks is answered to `run`, and the report of the end
abbrev pub end_text : Source → Schedule → List ℕ
end_text l s = codes "> run\n" ++ position_line (length s.items) (length s.items) ++ end_report l s

-- what is written for a listing and a schedule that is run to its end
unfoldable pub run_listing : Source → List ℕ → Result (List ℕ) Refusal
run_listing l schedule = do
  s ← schedule_for l schedule
  Ok (end_text l s)

-- what is written for the run of a listing whose schedule is the first of these texts
abbrev pub run_of_first_text : Source → List (List ℕ) → Result (List ℕ) Refusal
run_of_first_text l texts = run_listing l (part 0 texts)
