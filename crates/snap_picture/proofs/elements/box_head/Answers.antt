-- `box_head` writes the beginning of an SVG box, piece after piece, as its definition has it.
use Rattle.std.proofs.Common.{append_assoc}
use Rattle.snap_picture.specs.Elements.{box_head}
use Rattle.snap_picture.proofs.elements.box_head.Goals as goal

pub returns : goal.returns
unfolding box_head
returns c = λ well.
    let e5 = c.push-4.ensures well in
    let e4 = c.edges_text.ensures e5.0 in
    let e3 = c.push-3.ensures e4.0 in
    let e2 = c.push-2.ensures e3.0 in
    let e1 = c.push.ensures e2.0 in
    (e1.0, rw (e5.1, e4.1, e3.1, e2.1, e1.1) (simp append_assoc))
