-- `dot_text` writes the SVG of a dot, piece after piece, as its definition has it.
use Rattle.std.proofs.Common.{append_assoc}
use Rattle.snap_picture.specs.Elements.{dot_text}
use Rattle.snap_picture.proofs.elements.dot_text.Goals as goal

pub returns : goal.returns
unfolding dot_text
returns c = λ well.
    let e4 = c.push-2.ensures well in
    let e3 = c.attribute-2.ensures e4.0 in
    let e2 = c.attribute.ensures e3.0 in
    let e1 = c.push.ensures e2.0 in
    (e1.0, rw (e4.1, e3.1, e2.1, e1.1) (simp append_assoc))
