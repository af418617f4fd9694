-- `title_words` writes which listing, and which items of its run, an SVG picture shows, piece after piece, as its
-- definition has it.
use Rattle.std.proofs.Common.{append_assoc}
use Rattle.snap_picture.specs.FrameText.{title_words}
use Rattle.snap_picture.proofs.frame.title_words.Goals as goal

pub returns : goal.returns
unfolding title_words
returns c = λ well.
    let e12 = c.push_number-5.ensures well in
    let e11 = c.push-7.ensures e12.0 in
    let e10 = c.push_number-4.ensures e11.0 in
    let e9 = c.push-6.ensures e10.0 in
    let e8 = c.push_number-3.ensures e9.0 in
    let e7 = c.push-5.ensures e8.0 in
    let e6 = c.push_number-2.ensures e7.0 in
    let e5 = c.push-4.ensures e6.0 in
    let e4 = c.push_number.ensures e5.0 in
    let e3 = c.push-3.ensures e4.0 in
    let e2 = c.push-2.ensures e3.0 in
    let e1 = c.push.ensures e2.0 in (
      e1.0,
      rw (
        e12.1,
        e11.1,
        e10.1,
        c.to.ensures.value,
        e9.1,
        e8.1,
        c.first.ensures,
        e7.1,
        e6.1,
        e5.1,
        e4.1,
        c.processes.ensures.value,
        e3.1,
        e2.1,
        c.kind_name.ensures,
        e1.1,
      )
          (simp append_assoc),
    )
