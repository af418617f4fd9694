-- `push_verdict_line` of snap_audit (src/text.rt): the proof of what its contract says. The text is read back from its
-- last piece to its first.
use Rattle.std.proofs.Common.{append_assoc}
use Rattle.snap_audit.proofs.text.push_verdict_line.Goals as goal

pub returns : goal.returns
returns c = λ well.
    let e11 = c.push-6.ensures well in
    let e10 = c.push_number-4.ensures e11.0 in
    let e9 = c.push-5.ensures e10.0 in
    let e8 = c.push_point.ensures e9.0 in
    let e7 = c.push-4.ensures e8.0 in
    let e6 = c.push_number-3.ensures e7.0 in
    let e5 = c.push-3.ensures e6.0 in
    let e4 = c.push_number-2.ensures e5.0 in
    let e3 = c.push-2.ensures e4.0 in
    let e2 = c.push_number.ensures e3.0 in
    let e1 = c.push.ensures e2.0 in
    (e1.0, rw (e11.1, e10.1, e9.1, e8.1, e7.1, e6.1, e5.1, e4.1, e3.1, e2.1, e1.1, c.from.ensures) (simp append_assoc))
