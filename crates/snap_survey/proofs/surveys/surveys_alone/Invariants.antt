-- `surveys_alone` of snap_survey (src/surveys.rt): what holds at the head of each of its loops.
use Rattle.std.proofs.Common.{take}
use Rattle.snap_survey.specs.Surveys.{AreSurveysOf}
use Rattle.snap_survey.proofs.surveys.surveys_alone.Given as goal

-- the surveys so far are those of the first schedules
abbrev pub invariant-loop-schedule : goal.invariant-loop-schedule
invariant-loop-schedule l = AreSurveysOf l.program (take l.schedule-index l.schedules) l.surveys.items
