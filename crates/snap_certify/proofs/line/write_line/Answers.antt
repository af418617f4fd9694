-- `write_line` of snap_certify (src/line.rt): the proof of what its contract says.
use Rattle.snap_runs.specs.Run.{run_over}
use Rattle.snap_certify.proofs.Lines.{chosen_writes}
use Rattle.snap_certify.proofs.line.write_line.Goals as goal

pub returns-in-Some-clause-word : goal.returns-in-Some-clause-word
returns-in-Some-clause-word g c =
    chosen_writes (run_over c.args.program.now c.args.schedule.now) c.in_ok-line.field-0 c.in-Some.line c.in-Some.is
    c.in_ok-line.ensures
