-- `surveys_alone` of snap_survey (src/surveys.rt): the proof of what its contract says.
use Rattle.std.proofs.Common.{arith}
use Rattle.std.proofs.lemmas.List.{take_all}
use Rattle.snap_survey.proofs.Judging.{next_surveyed}
use Rattle.snap_survey.proofs.surveys.surveys_alone.Goals as goal

pub loop-schedule-preserved : goal.loop-schedule-preserved
loop-schedule-preserved c =
    rw c.in_ok-push.ensures.items (next_surveyed c.args.program.now c.args.schedules.now c.loop-schedule.schedule-index
    c.loop-schedule.surveys.items c.schedule-item.result c.in_ok-survey_of.field-0 c.loop-schedule-test.true
    c.schedule-item.is c.loop-schedule.invariant c.in_ok-survey_of.ensures)

pub returns : goal.returns
returns c =
    rw (take_all c.loop-schedule.schedule-index c.args.schedules.now (omega (arith, c.loop-schedule-test.false)))
    at c.loop-schedule.invariant
