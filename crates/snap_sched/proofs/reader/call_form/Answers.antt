-- `call_form` of snap_sched (src/reader.rt): the proof of what its contract says.
use Rattle.snap_sched.proofs.Again.{call_again}
use Rattle.snap_sched.proofs.reader.call_form.Goals as goal

pub returns : goal.returns
returns c = call_again c.args.line.now.process c.args.line.now.op
