-- `wrong_box` writes the SVG of an operation whose end nothing explains, piece after piece, as its definition has it.
use Rattle.std.proofs.Common.{append_assoc}
use Rattle.snap_picture.specs.ShapeText.{wrong_box}
use Rattle.snap_picture.proofs.bars.wrong_box.Goals as goal

pub returns : goal.returns
unfolding wrong_box
returns c = λ well.
    let e10 = c.push-4.ensures well in
    let e9 = c.words_head.ensures e10.0 in
    let e8 = c.line_text-2.ensures e9.0 in
    let e7 = c.line_text.ensures e8.0 in
    let e6 = c.push-3.ensures e7.0 in
    let e5 = c.edges_text.ensures e6.0 in
    let e4 = c.push-2.ensures e5.0 in
    let e3 = c.push.ensures e4.0 in
    let e2 = c.span_text.ensures e3.0 in
    let e1 = c.group_head.ensures e2.0 in
    (e1.0, rw (e10.1, e9.1, c.min.ensures, e8.1, e7.1, e6.1, e5.1, e4.1, e3.1, e2.1, e1.1) (simp append_assoc))
