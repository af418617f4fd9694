-- `output_of`: what the program writes for an input, for each task (`run`, `debug`, `audit`, `batch`, `survey`, ..),
-- or why it refuses; and what is judged for it. `clean_of`: whether all runs that are surveyed are clean.
use Rattle.std.specs.Prelude.{◌≡◌, ℕ, Bool, true, nat_lt, List, [], length, Result, Ok, Err, codes, if◌then◌else◌}
use Rattle.snap_semantics.specs.declared.fault.Fault.{Fault}
use Rattle.snap_semantics.specs.declared.refusal.Refusal.{Refusal}
use Rattle.snap_semantics.specs.declared.refusal.Refusal.TheVariants as refusal
use Rattle.snap_semantics.specs.Answers.{refused_as}
use Rattle.snap_image.specs.Assembly.{assembled, listed, upgraded}
use Rattle.snap_semantics.specs.Source.{Source}
use Rattle.snap_judge.specs.declared.judgements.Failing.{Failing}
use Rattle.snap_certify.specs.Output.{WasJudgedIn, certificates_text}
use Rattle.snap_lint.specs.Check.{check_of}
use Rattle.snap_lint.specs.Lint.{lint_of}
use Rattle.snap_survey.specs.Surveys.{AnswersSurvey, WereJudgedIn, clean_runs, surveyed}
use Rattle.snap_survey.specs.declared.survey_output.Output.{Output}
use Rattle.snap_output.specs.Traces.{traces_text}
use Rattle.snap_input.specs.Input.{parted}
use Rattle.snap_input.specs.Parts.{part, parts_of, max_input}
use Rattle.snap_output.specs.ScheduleOutput.{audit_of_first_text, batched}
use Rattle.snap_output.specs.Perform.{debug_text, perform_listing}
use Rattle.snap_tasks.specs.declared.task.Task.{Task}
use Rattle.snap_tasks.specs.declared.task.Task.TheVariants as task

-- a schedule, with the one command `run`
abbrev pub run_text : Source → List (List ℕ) → Result (List ℕ) Refusal
run_text l texts = perform_listing l (part 0 texts) (codes "run\n")

-- what is written for an input, with what was judged for it
abbrev pub of_task : List Failing → Task → List ℕ → Result (List ℕ) Refusal
of_task judged task.Check input = check_of input
of_task judged task.Lint input = lint_of input
of_task judged task.Assemble input = refused_as refusal.Listing (assembled input)
of_task judged task.List input = refused_as refusal.Image (listed input)
of_task judged task.Upgrade input = refused_as refusal.Image (upgraded input)
of_task judged (task.Run s) input = parted s 1 (parts_of input) run_text
of_task judged (task.Trace s) input = parted s 1 (parts_of input) traces_text
of_task judged (task.Debug s) input = parted s 2 (parts_of input) debug_text
of_task judged (task.Audit s) input = parted s 1 (parts_of input) audit_of_first_text
of_task judged (task.Certify s) input = parted s 1 (parts_of input) (certificates_text judged)
of_task judged (task.Batch s) input = batched s (parts_of input)
of_task judged (task.Survey s) input = surveyed judged s (parts_of input)

-- what a whole run of the program writes for an input, with what was judged for it, or its refusal
unfoldable pub output_of : List Failing → Task → List ℕ → Result (List ℕ) Refusal
output_of judged task input =
    if nat_lt max_input (length input) then Err refusal.InputTooLong else of_task judged task input

-- whether all runs that a survey of an input is of are clean, or its refusal; of other tasks no more is told
unfoldable pub clean_of : List Failing → Task → List ℕ → Result Bool Refusal
clean_of judged (task.Survey s) input =
    if nat_lt max_input (length input) then Err refusal.InputTooLong else clean_runs judged s (parts_of input)
clean_of judged _ input = Ok true

-- What was judged for a task on an input: the run that is to be certified, each run that is surveyed, and for other
-- tasks nothing.
abbrev pub AreJudged : Task → List ℕ → List Failing → Type 0
AreJudged (task.Certify s) input judged = WasJudgedIn s (parts_of input) judged
AreJudged (task.Survey s) input judged = WereJudgedIn s (parts_of input) judged
AreJudged _ input judged = judged ≡ []

-- What is answered with a status: the output, and whether all runs that are surveyed are clean, both of the same
-- judgements; a refusal comes before anything is judged, and a want of memory may stand in place of both.
abbrev pub AnswersOutput : Task → List ℕ → Result Output (Fault Refusal) → Type 0
AnswersOutput t input result =
    AnswersSurvey (AreJudged t input) result (λ judged. output_of judged t input) (λ judged. clean_of judged t input)

-- What is answered for a task on an input: its output, of judgements that say what is so, or its refusal.
abbrev pub IsAnswerTo : Task → List ℕ → Result (List ℕ) Refusal → Type 0
IsAnswerTo t input (Ok text) = (judged : List Failing) × AreJudged t input judged × (output_of judged t input ≡ Ok text)
IsAnswerTo t input (Err r) = output_of [] t input ≡ Err r
