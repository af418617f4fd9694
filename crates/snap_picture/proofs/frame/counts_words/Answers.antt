-- `counts_words` writes the counts of scans and updates in an SVG picture's text, piece after piece, as its
-- definition has it.
use Rattle.std.proofs.Common.{append_assoc}
use Rattle.snap_picture.specs.FrameText.{counts_words}
use Rattle.snap_picture.proofs.frame.counts_words.Goals as goal

pub returns : goal.returns
unfolding counts_words
returns c = λ well.
    let e7 = c.thin_words.ensures well in
    let e6 = c.push_number-3.ensures e7.0 in
    let e5 = c.push-3.ensures e6.0 in
    let e4 = c.push_number-2.ensures e5.0 in
    let e3 = c.push-2.ensures e4.0 in
    let e2 = c.push_number.ensures e3.0 in
    let e1 = c.push.ensures e2.0 in
    (e1.0, rw (e7.1, e6.1, e5.1, e4.1, e3.1, e2.1, e1.1) (simp append_assoc))
