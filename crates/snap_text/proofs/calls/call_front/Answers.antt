-- `call_front` of snap_text (src/calls.rt): the proof of what its contract says.
use Rattle.snap_text.proofs.CallLines.{call_begins}
use Rattle.snap_text.proofs.calls.call_front.Goals as goal

pub returns : goal.returns
returns c =
    let after = c.in_ok-op.after.now in
    let rest = c.in_ok-rest.rest.now in
    call_begins c.args.bytes.now c.in_ok-process.behind.now after rest c.in_ok-process.process c.in_ok-op.op
    c.in_ok-process.ensures c.in_ok-op.ensures
    c.in_ok-rest.ensures
