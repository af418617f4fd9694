-- `draw_and_write` of snapdraw (src/answers.rt): the proof of what its contract says.
use Rattle.snapdraw.specs.Answer.{Draws}
use Rattle.snap_named_files.specs.Texts.{view_texts}
use Rattle.snapdraw.specs.Drawing.{options_of}
use Rattle.snapdraw.proofs.Drawn.{not_drawn, passed}
use Rattle.snapdraw.proofs.answers.draw_and_write.Goals as goal

pub returns-in_err-text : goal.returns-in_err-text
returns-in_err-text g c =
    let o = options_of c.args.drawing.now in
    let texts = view_texts c.args.texts.now in
    let look = c.args.look.now in
    let e = c.in_err-text.field-0.0 in
    let sink = g.W.ByteSink.state c.args.sink.now in
    passed (λ r. Draws texts o look.style.now look.legend.now r sink sink) c.from_residual.result e
    c.from_residual.ensures (not_drawn o look.style.now look.legend.now texts sink e c.in_err-text.ensures)
