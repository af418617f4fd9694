-- `push_head` writes all that an SVG picture has before its shapes, piece after piece, as its definition has it.
use Rattle.std.proofs.Common.{append_assoc}
use Rattle.snap_picture.specs.FrameText.{head_text}
use Rattle.snap_picture.proofs.frame.push_head.Goals as goal

pub returns : goal.returns
unfolding head_text
returns c = λ well.
    let e7 = c.all_lanes.ensures well in
    let e6 = c.push-2.ensures e7.0 in
    let e5 = c.words_head.ensures e6.0 in
    let e4 = c.titles.ensures e5.0 in
    let e3 = c.push.ensures e4.0 in
    let e2 = c.name_text.ensures e3.0 in
    let e1 = c.opening.ensures e2.0 in
    (e1.0, rw (e7.1, e6.1, e5.1, e4.1, e3.1, e2.1, e1.1) (simp append_assoc))
