-- `opening_of` writes the opening of an SVG picture, piece after piece, as its definition has it.
use Rattle.std.proofs.Common.{append_assoc}
use Rattle.snap_picture.specs.FrameText.{opening_of}
use Rattle.snap_picture.proofs.frame.opening_of.Goals as goal

pub returns : goal.returns
unfolding opening_of
returns c = λ well.
    let e3 = c.push-2.ensures well in
    let e2 = c.push_number.ensures e3.0 in
    let e1 = c.push.ensures e2.0 in
    (e1.0, rw (e3.1, e2.1, e1.1) (simp append_assoc))
