-- `trap_path` writes the SVG of a trap, piece after piece, as its definition has it.
use Rattle.std.proofs.Common.{append_assoc}
use Rattle.snap_picture.specs.ShapeText.{trap_path}
use Rattle.snap_picture.proofs.spots.trap_path.Goals as goal

pub returns : goal.returns
unfolding trap_path
returns c = λ well.
    let e3 = c.push.ensures well in
    let e2 = c.spot_text.ensures e3.0 in
    let e1 = c.path_head.ensures e2.0 in
    (e1.0, rw (e3.1, e2.1, e1.1) (simp append_assoc))
