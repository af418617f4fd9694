-- What is written of surveys, with what was judged for them.
use Rattle.std.proofs.Common.{◌≡◌, ℕ, ◌+◌, ◌<◌, Bool, List, [], ◌∷◌, ◌++◌, Result, Ok, Err, refl, sym, subst, ◌∙◌}
use Rattle.std.proofs.Common.{get_or, length, take}
use Rattle.std.proofs.lemmas.List.{take_more}
use Rattle.std.specs.List.{list_all}
use Rattle.snap_semantics.specs.Answers.{IsRefusal}
use Rattle.snap_semantics.specs.Schedule.{Schedule}
use Rattle.snap_semantics.specs.Source.{Source}
use Rattle.snap_semantics.specs.declared.fault.Fault.{Fault}
use Rattle.snap_semantics.specs.declared.refusal.Refusal.{Refusal}
use Rattle.snap_runs.specs.Run.{run_over}
use Rattle.snap_judge.specs.declared.judgements.Failing.{Failing}
use Rattle.snap_input.proofs.Answered.{same_answer}
use Rattle.snap_input.proofs.Parting.{are_prepared, on_schedules}
use Rattle.snap_input.specs.Input.{Prepared, listing_for}
use Rattle.snap_input.specs.ManySchedules.{prepared_schedules, schedules_for}
use Rattle.snap_survey.specs.Survey.{IsSurveyOf}
use Rattle.snap_survey.specs.SurveyText.{surveys_text}
use Rattle.snap_survey.specs.Surveys.{AnswersSurvey, AreSurveysOf, WereJudged, WereJudgedIn, WereJudgedOver, are_clean}
use Rattle.snap_survey.specs.Surveys.{clean_runs, is_clean, survey_text, surveyed, surveys_over}
use Rattle.snap_survey.specs.declared.findings.JudgedSurvey.{JudgedSurvey}
use Rattle.snap_survey.specs.declared.survey_output.Output.{Output}
use Rattle.snap_tasks.specs.declared.subject.Subject.{Subject}

-- one survey more
pub one_surveyed : (l : Source) (ss : List Schedule) (vs : List JudgedSurvey) (s : Schedule) (v : JudgedSurvey) →
    AreSurveysOf l ss vs → IsSurveyOf (run_over l s) v → AreSurveysOf l (ss ++ s ∷ []) (vs ++ v ∷ [])
one_surveyed l [] [] s v are is = (is, tt)
one_surveyed l (r ∷ ss) (u ∷ vs) s v are is = (are.0, one_surveyed l ss vs s v are.1 is)
one_surveyed l _ _ s v are is = absurd are

-- the surveys of the first schedules, and the one of the next
pub next_surveyed : (l : Source) (ss : List Schedule) (k : ℕ) (vs : List JudgedSurvey) (s : Schedule)
    (v : JudgedSurvey) → k < length ss → s ≡ get_or ss k s → AreSurveysOf l (take k ss) vs →
    IsSurveyOf (run_over l s) v → AreSurveysOf l (take (k + 1) ss) (vs ++ v ∷ [])
next_surveyed l ss k vs s v below here are is =
    rw (take_more ss k s below, ← here) (one_surveyed l (take k ss) vs s v are is)

-- the judgements that surveys rest on
were_judged : (l : Source) (ss : List Schedule) (vs : List JudgedSurvey) → AreSurveysOf l ss vs →
    (judged : List Failing) × WereJudged l ss judged × (vs ≡ surveys_over l ss judged)
were_judged l [] [] are = ([], tt, refl)
were_judged l (s ∷ ss) (v ∷ vs) are =
    let first = are.0 in
    let rest = were_judged l ss vs are.1 in
    (first.0 ∷ rest.0, (first.1, rest.1), rw (← first.2, ← rest.2))
were_judged l _ _ are = absurd are

-- what is written for the schedules that texts are
pub over_texts : (l : Source) (texts : List (List ℕ)) (ss : List Schedule) (vs : List JudgedSurvey)
    (text : List ℕ) (clean : Bool) → schedules_for l texts ≡ Ok ss → AreSurveysOf l ss vs →
    text ≡ surveys_text vs → clean ≡ list_all is_clean vs →
    (judged : List Failing) × WereJudgedOver l texts judged × (survey_text judged l texts ≡ Ok text)
    × (are_clean judged l texts ≡ Ok clean)
unfolding survey_text are_clean
over_texts l texts ss vs text clean read are written told =
    let found = were_judged l ss vs are in (
      found.0,
      λ others is. rw (same_answer (schedules_for l texts) ss others read is) found.1,
      rw (read, written, ← found.2),
      rw (read, told, ← found.2),
    )

-- what was judged for an input
module _ (s : Subject) (parts : List (List ℕ)) (p : Prepared) (is : prepared_schedules s parts ≡ Ok p) where
  written_of : (judged : List Failing) → surveyed judged s parts ≡ survey_text judged p.source p.texts
  unfolding surveyed
  written_of judged = on_schedules s parts p (survey_text judged) is

  clean_of : (judged : List Failing) → clean_runs judged s parts ≡ are_clean judged p.source p.texts
  unfolding clean_runs
  clean_of judged = on_schedules s parts p (are_clean judged) is

  pub of_input : (result : Result Output (Fault Refusal)) →
      AnswersSurvey (WereJudgedOver p.source p.texts) result (λ judged. survey_text judged p.source p.texts)
      (λ judged. are_clean judged p.source p.texts) →
      AnswersSurvey (WereJudgedIn s parts) result (λ judged. surveyed judged s parts)
      (λ judged. clean_runs judged s parts)
  of_input (Ok out) h =
      let there = are_prepared s parts p is in (
        h.0,
        λ m listed. rw (same_answer (listing_for s parts) p.source m there.listing listed, ← there.texts) h.1,
        written_of h.0 ∙ h.2,
        clean_of h.0 ∙ h.3,
      )
  of_input (Err fault) h = subst (IsRefusal fault) (sym (written_of [])) h
