-- `push_answer` of snap_judge_reasons (src/failure.rt): the proof of what its contract says. The text is read back from
-- its last piece to its first.
use Rattle.std.proofs.Common.{append_assoc}
use Rattle.snap_judge_reasons.proofs.failure.push_answer.Goals as goal

pub returns : goal.returns
returns c = λ well.
    let e3 = c.push-2.ensures well in
    let e2 = c.push_numbers.ensures e3.0 in
    let e1 = c.push.ensures e2.0 in
    (e1.0, rw (e3.1, e2.1, e1.1, c.as_slice.ensures) (simp append_assoc))
