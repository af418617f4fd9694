-- `survey_runs_in_threads` of snap_survey (src/survey_output.rt): the proof of what its contract says.
use Rattle.std.proofs.Common.{map}
use Rattle.snap_survey.proofs.Judging.{over_texts}
use Rattle.snap_survey.proofs.survey_output.survey_runs_in_threads.Goals as goal

pub returns : goal.returns
returns g c =
    let out = c.in_ok-output_of.ensures in
    over_texts c.args.program.now (map (λ text. text.now) c.args.texts.now) c.in_ok-schedules.schedules.items
    c.in_ok-surveys.surveys.items c.in_ok-output_of.field-0.text.items c.in_ok-output_of.field-0.clean
    c.in_ok-schedules.ensures (rw (← c.as_slice.ensures.value) c.in_ok-surveys.ensures)
    (rw c.as_slice-2.ensures.value at out.text) (rw c.as_slice-2.ensures.value at out.clean)
