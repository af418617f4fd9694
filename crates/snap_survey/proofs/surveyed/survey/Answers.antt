-- `survey` of snap_survey (src/surveyed.rt): the proof of what its contract says.
use Rattle.std.proofs.Common.{IfOk, subst, ◌∙◌}
use Rattle.snap_runs.specs.Run.{Run}
use Rattle.snap_audit.proofs.Watches.{fewer_left, same_run, silent_here, watched_all}
use Rattle.snap_survey.specs.Survey.{IsSurveyOf}
use Rattle.snap_survey.proofs.Tallies.{tallied_over}
use Rattle.snap_survey.proofs.surveyed.survey.Goals as goal

pub note-requires-clause-passed : goal.note-requires-clause-passed
note-requires-clause-passed g c κs within = (
  c.loop-watch.walk,
  record {
    tally = c.loop-watch.invariant.tally;
    quiet = c.silent_lines.result.now;
    tells = rw (c.in-Some.is, c.seeks_skip.ensures) at c.in_ok-passed.ensures.told;
  },
)

pub note-requires-in-Some-clause-passed : goal.note-requires-in-Some-clause-passed
note-requires-in-Some-clause-passed g c κs within = (
  c.loop-watch.walk,
  record {
    watches = c.loop-watch.invariant.watches;
    quiet = c.silent_lines.result.now;
    silent =
        silent_here c.loop-watch.walk c.loop-watch.watch c.loop-watch.invariant.watches c.silent_lines.result.now
        c.silent_lines.ensures;
    tells_skips = c.seeks_skip.result;
    tells = rw c.in-Some.is at c.in_ok-passed.ensures.told;
  },
)

pub loop-watch-preserved : goal.loop-watch-preserved
loop-watch-preserved g c =
    let told = rw c.in-Some.is at c.in_ok-passed.ensures.told in
    record {
      run = same_run _ _ _ _ _ told ∙ c.loop-watch.invariant.run;
      watches = c.in_ok-note.ensures.watches;
      tally = c.note.ensures;
    }

pub loop-watch-smaller : goal.loop-watch-smaller
loop-watch-smaller g c = fewer_left _ _ _ _ _ (rw c.in-Some.is at c.in_ok-passed.ensures.told)

pub judged_survey-requires-clause-end : goal.judged_survey-requires-clause-end
judged_survey-requires-clause-end g c κs within = (rw c.in_default.is at c.in_ok-passed.ensures.told).end

pub judged_survey-requires-clause-watch : goal.judged_survey-requires-clause-watch
judged_survey-requires-clause-watch g c κs within =
    watched_all _ _ _ _ _ c.silent_lines.ensures (rw c.in_default.is at c.in_ok-passed.ensures.told)
    c.loop-watch.invariant.watches

pub judged_survey-requires-clause-tally : goal.judged_survey-requires-clause-tally
judged_survey-requires-clause-tally g c κs within =
    tallied_over c.silent_lines.result.now _ _ _
    (rw (c.in_default.is, c.seeks_skip.ensures) at c.in_ok-passed.ensures.told).over c.loop-watch.invariant.tally

pub returns : goal.returns
returns g c =
    let none = rw c.in_default.is at c.in_ok-passed.ensures.told in
    subst (λ (r : Run). IfOk c.judged_survey.result (IsSurveyOf r)) (none.over.run ∙ c.loop-watch.invariant.run)
    c.judged_survey.ensures
