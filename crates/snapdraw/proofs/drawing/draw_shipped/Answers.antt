-- `draw_shipped` of snapdraw (src/drawing.rt): the proof of what its contract says.
use Rattle.snap_shipped.specs.Shipped.{shipped}
use Rattle.snap_named_files.specs.Texts.{OfShipped}
use Rattle.snapdraw.specs.Drawing.{IsDrawing, bytes_of}
use Rattle.snapdraw.proofs.Drawn.{no_program, passed}
use Rattle.snapdraw.proofs.drawing.draw_shipped.Goals as goal

pub returns-in_err-program : goal.returns-in_err-program
returns-in_err-program c =
    let o = c.args.options.now in
    let look = c.args.look.now in
    let e = c.in_err-program.field-0.0 in
    passed (λ r. IsDrawing (OfShipped c.args.kind c.args.schedule.now) o look.style.now look.legend.now (bytes_of r))
    c.from_residual.result e c.from_residual.ensures
    (no_program o look.style.now look.legend.now c.args.kind c.args.schedule.now e (shipped c.args.kind)
    c.in_err-program.ensures)
