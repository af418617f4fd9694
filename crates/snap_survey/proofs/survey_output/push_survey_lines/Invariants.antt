-- `push_survey_lines` of snap_survey (src/survey_output.rt): what holds at the head of each of its loops.
use Rattle.std.proofs.Common.{◌≡◌, ◌++◌, ◌+◌, drop, false}
use Rattle.snap_survey.specs.SurveyText.{survey_lines}
use Rattle.snap_survey.proofs.survey_output.push_survey_lines.Given as goal

-- the lines so far, and those of the surveys that are left
abbrev pub invariant-loop-k : goal.invariant-loop-k
invariant-loop-k l =
    l.out.failed ≡ false →
    (l.fn.out.failed ≡ false)
    × (l.out.text ++ survey_lines (l.k + 1) (drop l.k l.surveys) ≡ l.fn.out.text ++ survey_lines 1 l.surveys)
