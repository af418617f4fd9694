-- `embedded_box` writes the SVG of a scan within an update, piece after piece, as its definition has it.
use Rattle.std.proofs.Common.{append_assoc}
use Rattle.snap_picture.specs.ShapeText.{embedded_box}
use Rattle.snap_picture.proofs.bars.embedded_box.Goals as goal

pub returns : goal.returns
unfolding embedded_box
returns c = λ well.
    let e5 = c.push-3.ensures well in
    let e4 = c.push-2.ensures e5.0 in
    let e3 = c.push.ensures e4.0 in
    let e2 = c.span_text.ensures e3.0 in
    let e1 = c.box_head.ensures e2.0 in
    (e1.0, rw (e5.1, e4.1, e3.1, e2.1, e1.1) (simp append_assoc))
