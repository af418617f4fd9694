-- `conduct_live` of snap_program (src/live_run.rt): the proof of what its contract says.
use Rattle.snap_live_output.specs.LiveOutput.{MayWrite}
use Rattle.snap_program.specs.WholeRun.{done_of}
use Rattle.snap_program.proofs.Runs.{also, writes_live}
use Rattle.snap_program.proofs.live_run.conduct_live.Goals as goal

pub returns : goal.returns
returns g c =
    let answer = c.conduct_live_keeping.result in let may = g.G.Gate.may_answer c.args.gate.now in
    rw c.done_of.ensures (also (MayWrite may c.args.subject c.args.limit) (done_of answer)
    (writes_live answer may c.args.subject c.args.limit) c.conduct_live_keeping.ensures)
