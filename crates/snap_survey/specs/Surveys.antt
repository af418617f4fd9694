-- `survey_text`: what the runs of one listing over many schedules came to, a line for each and one for all; whether
-- they are all clean; and what was judged for it.
use Rattle.std.specs.Prelude.{◌≡◌, ℕ, Bool, not, ◌==◌, ◌&&◌, List, [], ◌∷◌, Result, Ok, Err}
use Rattle.std.specs.List.{list_all}
use Rattle.snap_semantics.specs.declared.fault.Fault.{Fault}
use Rattle.snap_semantics.specs.declared.refusal.Refusal.{Refusal}
use Rattle.snap_semantics.specs.Answers.{◌>>=◌, IsRefusal}
use Rattle.snap_semantics.specs.Schedule.{Schedule}
use Rattle.snap_semantics.specs.Source.{Source}
use Rattle.snap_runs.specs.Run.{run_over}
use Rattle.snap_input.specs.Input.{listing_for, texts_for}
use Rattle.snap_input.specs.ManySchedules.{over_schedules, schedules_for}
use Rattle.snap_judge.specs.declared.judgements.Failing.{Failing}
use Rattle.snap_run_judge.specs.RunJudgement.{IsRunJudgement, most_configurations}
use Rattle.snap_tasks.specs.declared.subject.Subject.{Subject}
use Rattle.snap_survey.specs.Survey.{IsSurveyOf, judged_survey}
use Rattle.snap_survey.specs.SurveyText.{surveys_text}
use Rattle.snap_survey.specs.Words.{is_not_linearizable}
use Rattle.snap_survey.specs.declared.findings.JudgedSurvey.{JudgedSurvey}
use Rattle.snap_survey.specs.declared.survey_output.Output.{Output}

-- what the run of a listing over each of these schedules came to, with what was judged of each
abbrev pub surveys_over : Source → List Schedule → List Failing → List JudgedSurvey
surveys_over l (s ∷ ss) (j ∷ js) = judged_survey (run_over l s) j ∷ surveys_over l ss js
surveys_over l _ _ = []

-- schedules: what the run over each came to, and what all of them did
unfoldable pub survey_text : List Failing → Source → List (List ℕ) → Result (List ℕ) Refusal
survey_text judged l texts = do
  ss ← schedules_for l texts
  Ok (surveys_text (surveys_over l ss judged))

-- a clean run: it is not found to be not linearizable, and no item trapped its process
abbrev pub is_clean : JudgedSurvey → Bool
is_clean s = not (is_not_linearizable s.linearizability) && (s.survey.traps == 0)

-- schedules: whether the run over each is clean
unfoldable pub are_clean : List Failing → Source → List (List ℕ) → Result Bool Refusal
are_clean judged l texts = do
  ss ← schedules_for l texts
  Ok (list_all is_clean (surveys_over l ss judged))

-- the parts of an input: what the run of each schedule came to
unfoldable pub surveyed : List Failing → Subject → List (List ℕ) → Result (List ℕ) Refusal
surveyed judged s parts = over_schedules s parts (survey_text judged)

-- whether the run of each schedule is clean
unfoldable pub clean_runs : List Failing → Subject → List (List ℕ) → Result Bool Refusal
clean_runs judged s parts = over_schedules s parts (are_clean judged)

-- What was judged of the runs of a listing over schedules, one for each.
abbrev pub WereJudged : Source → List Schedule → List Failing → Type 0
WereJudged l [] [] = Unit {0}
WereJudged l (s ∷ ss) (j ∷ js) = IsRunJudgement most_configurations (run_over l s) j × WereJudged l ss js
WereJudged l _ _ = ⊥

abbrev pub WereJudgedOver : Source → List (List ℕ) → List Failing → Type 0
WereJudgedOver l texts judged = (ss : List Schedule) → schedules_for l texts ≡ Ok ss → WereJudged l ss judged

-- What was judged of the runs of an input.
abbrev pub WereJudgedIn : Subject → List (List ℕ) → List Failing → Type 0
WereJudgedIn subject parts judged =
    (l : Source) → listing_for subject parts ≡ Ok l → WereJudgedOver l (texts_for subject parts) judged

-- The surveys are those of the runs of a listing over schedules, one for each.
abbrev pub AreSurveysOf : Source → List Schedule → List JudgedSurvey → Type 0
AreSurveysOf l [] [] = Unit {0}
AreSurveysOf l (s ∷ ss) (v ∷ vs) = IsSurveyOf (run_over l s) v × AreSurveysOf l ss vs
AreSurveysOf l _ _ = ⊥

-- What is answered of a survey, its text and whether all runs are clean, is what the definitions give of the same
-- judgements; a refusal comes before anything is judged, and a want of memory may stand in place of both.
abbrev pub AnswersSurvey : (List Failing → Type 0) → Result Output (Fault Refusal) →
    (text : List Failing → Result (List ℕ) Refusal) → (clean : List Failing → Result Bool Refusal) → Type 0
AnswersSurvey AreJudged (Ok out) text clean =
    (judged : List Failing) × AreJudged judged × (text judged ≡ Ok out.text.items) × (clean judged ≡ Ok out.clean)
AnswersSurvey AreJudged (Err fault) text clean = IsRefusal fault (text [])
