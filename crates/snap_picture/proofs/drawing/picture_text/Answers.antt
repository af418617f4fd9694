-- `picture_text` of snap_picture (src/drawing.rt): the proof of what its contract says.
use Rattle.std.proofs.Common.{◌∙◌, option_map, Bor, ℕ, List, refl}
use Rattle.snap_runs.specs.Run.{run_over}
use Rattle.snap_semantics.specs.declared.event.Event.{Event}
use Rattle.snap_picture.proofs.Crossing.{judged}
use Rattle.snap_picture.proofs.drawing.picture_text.Goals as goal

pub returns : goal.returns
returns g c =
    let wrong = option_map (λ (e : Bor Event). e.now) c.wrong_at.result in
    let frame = c.args.frame.now in
    let look = frame.look.now in
    let listing = option_map (λ (t : Bor (List ℕ)). t.now) frame.listing in
    judged c.args.most (run_over c.args.program.now c.args.items.now) c.in_ok-history.history c.in_ok-failing.failing
    c.as_slice-2.result.now wrong frame.window.now listing frame.schedule.now look.style.now look.legend.now
    c.picture_by.result c.in_ok-history.ensures c.in_ok-failing.ensures.judgement
    (c.as_slice-2.ensures.value
    ∙ (c.in_ok-shapes.ensures
    ∙ rw (c.as_slice.ensures.value, c.in_ok-steps.ensures, c.in_ok-history.ensures) refl))
    c.wrong_at.ensures c.picture_by.ensures
