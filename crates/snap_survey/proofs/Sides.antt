-- Surveys that are made side by side are those that are made one after another.
use Rattle.std.proofs.Common.{◌≡◌, List, [], ◌∷◌, map, Vec, Result, Ok, Err, Bor}
use Rattle.std.specs.Prelude.{IfOk, MatchResult}
use Rattle.std.specs.List.{AllZip, Contains}
use Rattle.std.specs.Global.{Global}
use Rattle.rayon.proofs.ToStd.{slice-AllZip}
use Rattle.snap_semantics.specs.Schedule.{Schedule}
use Rattle.snap_semantics.specs.Source.{Source}
use Rattle.snap_runs.specs.Run.{run_over}
use Rattle.snap_survey.specs.Survey.{IsSurveyOf}
use Rattle.snap_survey.specs.Surveys.{AreSurveysOf}
use Rattle.snap_survey.specs.declared.findings.JudgedSurvey.{JudgedSurvey}

-- a run was surveyed, or there was a fault
abbrev IsSurveyed : (E : Type 0) → Source → Schedule → Result JudgedSurvey E → Type 0
IsSurveyed E l s answer = IfOk answer (IsSurveyOf (run_over l s))

-- each run was surveyed, and the survey at its place is the one that it is
in_order : (E : Type 0) (l : Source) (ss : List Schedule) (vs : List JudgedSurvey) →
    AllZip (IsSurveyed E l) ss (map (λ v. Ok v) vs) → AreSurveysOf l ss vs
in_order E l [] [] h = tt
in_order E l (s ∷ ss) (v ∷ vs) h = (h.0, in_order E l ss vs h.1)
in_order E l _ _ h = absurd h

-- what is collected, if there was no fault
gathered : (E : Type 0) (l : Source) (ss : List Schedule) (answers : List (Result JudgedSurvey E))
    (result : Result (Vec JudgedSurvey Global) E) → AllZip (IsSurveyed E l) ss answers →
    MatchResult result (λ v. (made : List JudgedSurvey) × (answers ≡ map (λ v. Ok v) made) × (v.items ≡ made))
    (λ e. Contains answers (Err e)) →
    IfOk result (λ v. AreSurveysOf l ss v.items)
gathered E l ss answers (Ok v) each all =
    rw all.2 (in_order E l ss all.0 (rw all.1 at each))
gathered E l ss answers (Err e) each all = tt

-- a chain side by side over references that show the schedules, whose closure has its program by another way
pub side_by_side : {E : Type 0} (held program : Source) → held ≡ program →
    (seen : List (Bor Schedule)) (ss : List Schedule) → map (λ (z : Bor Schedule). z.now) seen ≡ ss →
    (answers : List (Result JudgedSurvey E)) (result : Result (Vec JudgedSurvey Global) E) →
    AllZip {A = Bor Schedule} {B = Result JudgedSurvey E} (λ z r. IfOk r (IsSurveyOf (run_over held z.now))) seen answers
    → MatchResult result (λ v. (made : List JudgedSurvey) × (answers ≡ map (λ v. Ok v) made) × (v.items ≡ made))
    (λ e. Contains answers (Err e)) →
    IfOk result (λ v. AreSurveysOf program ss v.items)
side_by_side {E = E} held program same seen ss shown answers result each all =
    rw (← same) (gathered E held ss answers result
    (slice-AllZip seen ss shown (IsSurveyed E held) answers each) all)
