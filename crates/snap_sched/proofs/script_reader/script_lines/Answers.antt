-- `script_lines` of snap_sched (src/script_reader.rt): the proof of what its contract says.
use Rattle.std.proofs.Common.{◌≡◌, ap, sym, ◌∙◌, Ok}
use Rattle.snap_text.specs.Lines.{view_line}
use Rattle.snap_sched.specs.ScriptText.{script_line}
use Rattle.snap_sched.proofs.Told.{next_is, line_told}
use Rattle.snap_sched.proofs.script_reader.script_lines.Goals as goal

pub loop-forms-preserved-in_ok-push-in-Ok : goal.loop-forms-preserved-in_ok-push-in-Ok
loop-forms-preserved-in_ok-push-in-Ok c =
    let line = view_line c.in-Some.line in
    let rest = c.next_line.new.self in
    let before = c.loop-forms.forms.items in
    let next =
    next_is c.in_ok-line.field-0 c.in-Some.line c.loop-forms.lines rest c.in_ok-line.ensures.next c.in-Some.is in
    let found : script_line c.args.n before line ≡ Ok c.in-Ok.form =
    ap (λ fs. script_line c.args.n fs line) (sym c.as_slice.ensures.value) ∙ c.in-Ok.ensures in
    line_told c.args.n c.loop-forms.lines rest line before c.push.new.self.items c.in-Ok.form next found
    c.in_ok-push-in-Ok.ensures.items ∙ c.loop-forms.invariant
