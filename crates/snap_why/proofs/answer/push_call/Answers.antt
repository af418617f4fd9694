-- `push_call` of snap_why (src/answer.rt): the proof of what its contract says. The text is read back from its last
-- piece to its first.
use Rattle.std.proofs.Common.{append_assoc}
use Rattle.snap_why.specs.Answer.{call_lines}
use Rattle.snap_why.proofs.answer.push_call.Goals as goal

pub returns : goal.returns
unfolding call_lines
returns c = λ well.
    let e3 = c.push_goto.ensures well in
    let e2 = c.push.ensures e3.0 in
    let e1 = c.push_verdict_line.ensures e2.0 in
    (e1.0, rw (e3.1, e2.1, e1.1) (simp append_assoc))
