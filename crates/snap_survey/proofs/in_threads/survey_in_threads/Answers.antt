-- `survey_in_threads` of snap_survey (src/in_threads.rt): the proof of what its contract says.
use Rattle.std.proofs.Common.{map, sym}
use Rattle.snap_input.specs.Parts.{parts_of}
use Rattle.snap_survey.proofs.Judging.{of_input}
use Rattle.snap_survey.proofs.in_threads.survey_in_threads.Goals as goal

pub returns-clause-output : goal.returns-clause-output
returns-clause-output g c =
    of_input c.args.subject (parts_of c.args.input.now)
    (record { source = c.in_ok-given.given.program; texts = map (λ text. text.now) c.in_ok-given.given.texts.items })
    c.in_ok-given.ensures.prepared c.survey_runs_in_threads.result
    (rw (sym c.as_slice.ensures.value) c.survey_runs_in_threads.ensures)
