-- `trace_listing`: what the task `trace` writes for a listing and a schedule, which is what each item of the run did,
-- or why it is refused.
use Rattle.std.specs.Prelude.{ℕ, List, Result, Ok}
use Rattle.snap_semantics.specs.Answers.{◌>>=◌}
use Rattle.snap_semantics.specs.Source.{Source}
use Rattle.snap_semantics.specs.declared.refusal.Refusal.{Refusal}
use Rattle.snap_runs.specs.Run.{run_over}
use Rattle.snap_input.specs.Parts.{part}
use Rattle.snap_input.specs.Schedules.{schedule_for}
use Rattle.snap_output.specs.Trace.{trace_text}

-- a schedule: what each item of its run did
unfoldable pub trace_listing : Source → List ℕ → Result (List ℕ) Refusal
trace_listing l schedule = do
  s ← schedule_for l schedule
  Ok (trace_text (run_over l s))

abbrev pub traces_text : Source → List (List ℕ) → Result (List ℕ) Refusal
traces_text l texts = trace_listing l (part 0 texts)
