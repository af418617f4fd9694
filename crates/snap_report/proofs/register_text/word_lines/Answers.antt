-- `word_lines` of snap_report (src/register_text.rt): the proof of what its contract says.
use Rattle.std.proofs.Common.{◌≤◌, ◌∙◌, length, refl, ap, arith}
use Rattle.snap_words.specs.Shape.{Counts}
use Rattle.snap_semantics.specs.Report.{word_line, word_lines}
use Rattle.snap_report.proofs.Lines.{line_pushed, no_line_left, word_there}
use Rattle.snap_report.proofs.register_text.word_lines.Goals as goal

pub loop-k-preserved : goal.loop-k-preserved
loop-k-preserved g c = λ well.
    let m = c.args.machine.now in
    let added = c.register_line.ensures well in
    let held = c.loop-k.invariant added.0 in (
      held.0,
      line_pushed (word_line m.source.kind) (word_lines m.source.kind) (λ n. refl)
          (λ n x xs. refl) m.state.memory.words c.loop-k.k c.args.out.now.text
          c.loop-k.out.text c.register_line.new.out.text _
          (word_there m.source.kind m.state.memory c.loop-k.k) added.1 held.1,
    )

pub returns : goal.returns
returns g c = λ well.
    let m = c.args.machine.now in
    let held = c.loop-k.invariant well in
    let count = c.w-count.ensures ∙ ap (λ (s : Counts). s.w) c.shape.ensures.shape in
    let within : length m.state.memory.words ≤ c.loop-k.k =
    omega (arith, c.shape.ensures.registers.word_count, count) in (
      held.0,
      no_line_left (word_line m.source.kind) (word_lines m.source.kind) (λ n. refl)
          (λ n x xs. refl) m.state.memory.words c.loop-k.k c.args.out.now.text
          c.loop-k.out.text within held.1,
    )
