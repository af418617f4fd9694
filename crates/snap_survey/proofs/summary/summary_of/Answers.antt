-- `summary_of` of snap_survey (src/summary.rt).
use Rattle.snap_survey.proofs.Summaries.{counts_next}
use Rattle.snap_survey.proofs.summary.summary_of.Goals as goal

pub loop-survey-preserved : goal.loop-survey-preserved
loop-survey-preserved c =
    counts_next c.args.surveys.now c.loop-survey.summary _ c.loop-survey.survey-index _ c.loop-survey-test.true
    c.add.ensures c.loop-survey.invariant
