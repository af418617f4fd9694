-- `push_foot` writes the end of an SVG picture, piece after piece, as its definition has it.
use Rattle.std.proofs.Common.{append_assoc}
use Rattle.snap_picture.specs.FrameText.{foot_text}
use Rattle.snap_picture.proofs.frame.push_foot.Goals as goal

pub returns : goal.returns
unfolding foot_text
returns c = λ well.
    let e5 = c.push-4.ensures well in
    let e4 = c.push-3.ensures e5.0 in
    let e3 = c.push-2.ensures e4.0 in
    let e2 = c.push_number.ensures e3.0 in
    let e1 = c.push.ensures e2.0 in
    (e1.0, rw (e5.1, e4.1, e3.1, e2.1, c.y_end.ensures.place, e1.1) (simp append_assoc))
