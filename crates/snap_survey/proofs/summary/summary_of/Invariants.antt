-- `summary_of` of snap_survey (src/summary.rt): what holds at the head of each of its loops.
use Rattle.std.proofs.Common.{drop}
use Rattle.snap_survey.proofs.Summaries.{Counting}
use Rattle.snap_survey.proofs.summary.summary_of.Given as goal

-- the surveys so far are counted, and the others are left
abbrev pub invariant-loop-survey : goal.invariant-loop-survey
invariant-loop-survey l = Counting l.surveys l.summary l.survey-index (drop l.survey-index l.surveys)
