-- `conduct` of snap_program (src/whole_run.rt): the proof of what its contract says.
use Rattle.snap_program.specs.TaskRun.{IsOutputOf}
use Rattle.snap_program.specs.WholeRun.{done_of}
use Rattle.snap_program.proofs.Runs.{also}
use Rattle.snap_program.proofs.whole_run.conduct.Goals as goal

pub returns : goal.returns
returns g c =
    rw c.done_of.ensures (also (IsOutputOf c.args.task.now) (done_of c.conduct_keeping.result)
    (λ input text found. (found.0, found.1, found.2)) c.conduct_keeping.ensures)
