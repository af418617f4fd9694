-- `point_path` writes the SVG of a scan's point and the line down to the scan, piece after piece, as its definition
-- has it.
use Rattle.std.proofs.Common.{append_assoc}
use Rattle.snap_picture.specs.ShapeText.{point_path}
use Rattle.snap_picture.proofs.bars.point_path.Goals as goal

pub returns : goal.returns
unfolding point_path
returns c = λ well.
    let e7 = c.push-2.ensures well in
    let e6 = c.point_words.ensures e7.0 in
    let e5 = c.push.ensures e6.0 in
    let e4 = c.path_head.ensures e5.0 in
    let e3 = c.line_text.ensures e4.0 in
    let e2 = c.point_title.ensures e3.0 in
    let e1 = c.group_head.ensures e2.0 in
    (e1.0, rw (e7.1, e6.1, e5.1, e4.1, e3.1, e2.1, e1.1) (simp append_assoc))
