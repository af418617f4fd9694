-- `row_lines` of snap_report (src/register_text.rt): the proof of what its contract says.
use Rattle.std.proofs.Common.{◌≤◌, ◌∙◌, length, refl, ap, arith}
use Rattle.snap_words.specs.Shape.{Counts}
use Rattle.snap_semantics.specs.Report.{bit_line, row_lines}
use Rattle.snap_report.specs.ReportLines.{bank_text, row_at}
use Rattle.snap_report.proofs.Lines.{few_bits, line_pushed, no_line_left, bit_there}
use Rattle.snap_report.proofs.register_text.row_lines.Goals as goal

pub loop-j-preserved : goal.loop-j-preserved
loop-j-preserved g c = λ well.
    let m = c.args.machine.now in
    let added = c.register_line.ensures well in
    let held = c.loop-j.invariant added.0 in (
      held.0,
      line_pushed (bit_line (bank_text c.args.bank) c.args.i) (row_lines (bank_text c.args.bank) c.args.i) (λ n. refl)
          (λ n x xs. refl) (row_at c.args.bank c.args.i m.state.memory) c.loop-j.j c.args.out.now.text
          c.loop-j.out.text c.register_line.new.out.text _
          (bit_there m.source.kind m.state.memory c.args.bank c.args.i c.loop-j.j)
          added.1 held.1,
    )

pub returns : goal.returns
returns g c = λ well.
    let m = c.args.machine.now in
    let held = c.loop-j.invariant well in
    let few = few_bits g.K.Kind.TAG m.shape m.state.memory c.args.bank c.args.i c.shape.ensures.registers in
    let count = c.n-count.ensures ∙ ap (λ (s : Counts). s.n) c.shape.ensures.shape in
    let within : length (row_at c.args.bank c.args.i m.state.memory) ≤ c.loop-j.j = omega (arith, few, count) in (
      held.0,
      no_line_left (bit_line (bank_text c.args.bank) c.args.i) (row_lines (bank_text c.args.bank) c.args.i) (λ n. refl)
          (λ n x xs. refl) (row_at c.args.bank c.args.i m.state.memory) c.loop-j.j c.args.out.now.text
          c.loop-j.out.text within held.1,
    )
