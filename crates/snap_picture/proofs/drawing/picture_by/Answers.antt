-- `picture_by` writes a picture piece after piece, and last what is crossed out, as its definition has it.
use Rattle.std.proofs.Common.{append_assoc, option_map, Bor, ℕ, List}
use Rattle.snap_semantics.specs.declared.event.Event.{Event}
use Rattle.snap_picture.specs.Crossed.{crossed_at}
use Rattle.snap_picture.specs.Picture.{picture_by}
use Rattle.snap_picture.proofs.Crossing.{finished, shapes_joined}
use Rattle.snap_picture.proofs.drawing.picture_by.Goals as goal

pub returns : goal.returns
unfolding picture_by
returns g c =
    let wrong = option_map (λ (e : Bor Event). e.now) c.args.wrong in
    let frame = c.args.frame.now in
    let look = frame.look.now in
    let listing = option_map (λ (t : Bor (List ℕ)). t.now) frame.listing in
    finished c.finish.result c.push_foot.new.out
    (picture_by c.args.history.now c.args.shapes.now frame.window.now listing frame.schedule.now look.style.now
    look.legend.now wrong)
    c.finish.ensures
    (λ well.
    let e5 = c.push_foot.ensures well in
    let e4 = c.push_shapes-2.ensures e5.0 in
    let e3 = c.push_shapes.ensures e4.0 in
    let e2 = c.push_input.ensures e3.0 in
    let e1 = c.push_head.ensures e2.0 in
    rw (
      e5.1,
      e4.1,
      e3.1,
      e2.1,
      e1.1,
      c.new-out.ensures.text,
      c.counts_of-counts.ensures,
      c.as_slice.ensures.value,
      c.in_ok-crossed.ensures,
      shapes_joined frame.window.now c.args.shapes.now (crossed_at wrong c.args.shapes.now),
    )
    (simp append_assoc))
