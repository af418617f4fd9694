-- `push_line` of snap_live_output (src/uncalled.rt): the proof of what its contract says. The text is read back from
-- its last piece to its first.
use Rattle.std.proofs.Common.{append_assoc}
use Rattle.snap_live_output.specs.Uncalled.{uncalled_line}
use Rattle.snap_live_output.proofs.uncalled.push_line.Goals as goal

pub returns : goal.returns
unfolding uncalled_line
returns c = λ well.
    let e8 = c.push-4.ensures well in
    let e7 = c.reason_text.ensures e8.0 in
    let e6 = c.push-3.ensures e7.0 in
    let e5 = c.op_text.ensures e6.0 in
    let e4 = c.push-2.ensures e5.0 in
    let e3 = c.push_number.ensures e4.0 in
    let e2 = c.push.ensures e3.0 in
    let e1 = c.push_front.ensures e2.0 in
    (e1.0, rw (e8.1, e7.1, e6.1, e5.1, e4.1, e3.1, e2.1, e1.1) (simp append_assoc))
