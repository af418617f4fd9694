-- `audit_listing` and `batched`: what the tasks `audit` and `batch` write of the runs of a listing, or why they refuse.
use Rattle.std.specs.Prelude.{ℕ, List, map, Result, Ok}
use Rattle.snap_semantics.specs.declared.refusal.Refusal.{Refusal}
use Rattle.snap_semantics.specs.Answers.{◌>>=◌}
use Rattle.snap_semantics.specs.Source.{Source}
use Rattle.snap_runs.specs.Run.{run_over}
use Rattle.snap_audit.specs.VerdictText.{audit_text}
use Rattle.snap_batch.specs.End.{end_report}
use Rattle.snap_batch.specs.Reports.{reports_text}
use Rattle.snap_input.specs.Parts.{part}
use Rattle.snap_input.specs.Schedules.{schedule_for}
use Rattle.snap_input.specs.ManySchedules.{over_schedules, schedules_for}
use Rattle.snap_tasks.specs.declared.subject.Subject.{Subject}

-- a schedule: the verdicts of its run
unfoldable pub audit_listing : Source → List ℕ → Result (List ℕ) Refusal
audit_listing l schedule = do
  s ← schedule_for l schedule
  Ok (audit_text (run_over l s))

-- what is written for the audit of a listing whose schedule is the first of these texts
abbrev pub audit_of_first_text : Source → List (List ℕ) → Result (List ℕ) Refusal
audit_of_first_text l texts = audit_listing l (part 0 texts)

-- schedules: the report of the end of each
unfoldable pub batch_text : Source → List (List ℕ) → Result (List ℕ) Refusal
batch_text l texts = do
  ss ← schedules_for l texts
  Ok (reports_text 1 (map (end_report l) ss))

-- the report of the end of each schedule
unfoldable pub batched : Subject → List (List ℕ) → Result (List ℕ) Refusal
batched s parts = over_schedules s parts batch_text
