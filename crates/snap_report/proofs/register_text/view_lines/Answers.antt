-- `view_lines` of snap_report (src/register_text.rt): the proof of what its contract says.
use Rattle.std.proofs.Common.{◌≤◌, ◌∙◌, length, refl, ap, arith}
use Rattle.snap_words.specs.Shape.{Counts}
use Rattle.snap_semantics.specs.Report.{view_line, view_lines}
use Rattle.snap_report.proofs.Lines.{few_views, line_pushed, no_line_left, view_there}
use Rattle.snap_report.proofs.register_text.view_lines.Goals as goal

pub loop-i-preserved : goal.loop-i-preserved
loop-i-preserved g c = λ well.
    let m = c.args.machine.now in
    let added = c.register_line.ensures well in
    let held = c.loop-i.invariant added.0 in (
      held.0,
      line_pushed (view_line) (view_lines) (λ n. refl)
          (λ n x xs. refl) m.state.memory.views c.loop-i.i c.args.out.now.text
          c.loop-i.out.text c.register_line.new.out.text _
          (view_there m.source.kind m.state.memory c.loop-i.i) added.1 held.1,
    )

pub returns : goal.returns
returns g c = λ well.
    let m = c.args.machine.now in
    let held = c.loop-i.invariant well in
    let few = few_views g.K.Kind.TAG m.shape m.state.memory c.shape.ensures.registers in
    let count = c.n-count.ensures ∙ ap (λ (s : Counts). s.n) c.shape.ensures.shape in
    let within : length m.state.memory.views ≤ c.loop-i.i = omega (arith, few, count) in (
      held.0,
      no_line_left (view_line) (view_lines) (λ n. refl)
          (λ n x xs. refl) m.state.memory.views c.loop-i.i c.args.out.now.text
          c.loop-i.out.text within held.1,
    )
