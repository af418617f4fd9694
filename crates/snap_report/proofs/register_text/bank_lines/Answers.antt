-- `bank_lines` of snap_report (src/register_text.rt): the proof of what its contract says.
use Rattle.std.proofs.Common.{◌≤◌, ◌∙◌, length, refl, ap, arith}
use Rattle.snap_words.specs.Shape.{Counts}
use Rattle.snap_semantics.specs.Report.{bank_lines, row_lines}
use Rattle.snap_report.specs.ReportLines.{bank_text, rows_of}
use Rattle.snap_report.proofs.Lines.{few_rows, line_pushed, no_line_left, row_there}
use Rattle.snap_report.proofs.register_text.bank_lines.Goals as goal

pub loop-i-preserved : goal.loop-i-preserved
loop-i-preserved g c = λ well.
    let m = c.args.machine.now in
    let added = c.row_lines.ensures well in
    let held = c.loop-i.invariant added.0 in (
      held.0,
      line_pushed (λ n row. row_lines (bank_text c.args.bank) n 1 row) (bank_lines (bank_text c.args.bank)) (λ n. refl)
          (λ n x xs. refl) (rows_of c.args.bank m.state.memory) c.loop-i.i c.args.out.now.text
          c.loop-i.out.text c.row_lines.new.out.text _
          (row_there c.args.bank m.state.memory c.loop-i.i) added.1 held.1,
    )

pub returns : goal.returns
returns g c = λ well.
    let m = c.args.machine.now in
    let held = c.loop-i.invariant well in
    let few = few_rows g.K.Kind.TAG m.shape m.state.memory c.args.bank c.shape.ensures.registers in
    let count = c.n-count.ensures ∙ ap (λ (s : Counts). s.n) c.shape.ensures.shape in
    let within : length (rows_of c.args.bank m.state.memory) ≤ c.loop-i.i = omega (arith, few, count) in (
      held.0,
      no_line_left (λ n row. row_lines (bank_text c.args.bank) n 1 row) (bank_lines (bank_text c.args.bank)) (λ n. refl)
          (λ n x xs. refl) (rows_of c.args.bank m.state.memory) c.loop-i.i c.args.out.now.text
          c.loop-i.out.text within held.1,
    )
