-- `found_words` writes what the SVG of a scan's point says, piece after piece, as its definition has it.
use Rattle.std.proofs.Common.{append_assoc}
use Rattle.snap_picture.specs.ShapeText.{found_words}
use Rattle.snap_picture.proofs.bars.found_words.Goals as goal

pub returns : goal.returns
unfolding found_words
returns c = λ well.
    let e8 = c.push-4.ensures well in
    let e7 = c.push_number-2.ensures e8.0 in
    let e6 = c.push-3.ensures e7.0 in
    let e5 = c.push_numbers.ensures e6.0 in
    let e4 = c.push-2.ensures e5.0 in
    let e3 = c.push_number.ensures e4.0 in
    let e2 = c.push.ensures e3.0 in
    let e1 = c.span_text.ensures e2.0 in
    (e1.0, rw (e8.1, e7.1, e6.1, e5.1, e4.1, e3.1, e2.1, e1.1) (simp append_assoc))
