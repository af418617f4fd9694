-- `survey_input` of snap_survey (src/task.rt): the proof of what its contract says.
use Rattle.std.proofs.Common.{map, sym}
use Rattle.snap_input.specs.Parts.{parts_of}
use Rattle.snap_survey.proofs.Judging.{of_input}
use Rattle.snap_survey.proofs.task.survey_input.Goals as goal

pub returns-clause-output : goal.returns-clause-output
returns-clause-output c =
    of_input c.args.subject (parts_of c.args.input.now)
    (record { source = c.in_ok-given.given.program; texts = map (λ text. text.now) c.in_ok-given.given.texts.items })
    c.in_ok-given.ensures.prepared c.survey_runs.result
    (rw (sym c.as_slice.ensures.value) c.survey_runs.ensures)
