-- `push_step_lines` of snap_sched (src/reader.rt): the proof of what its contract says.
use Rattle.std.proofs.Common.{◌≡◌, ◌-◌, length, ap, sym, ◌∙◌, Ok, arith}
use Rattle.snap_text.specs.Numbers.{view_numbers}
use Rattle.snap_sched.specs.ReaderSteps.{view_form, line_form}
use Rattle.snap_sched.proofs.Lines.{turn, kept}
use Rattle.snap_sched.proofs.reader.push_step_lines.Goals as goal

pub loop-line-preserved : goal.loop-line-preserved
loop-line-preserved c =
    let items = c.loop-line.items in
    let line = view_numbers c.in-Some.line in
    let f = view_form c.in_ok-form.form in
    let found : line_form c.args.n (1000000 - length items) line ≡ Ok f =
    ap (λ k. line_form c.args.n (1000000 - k) line) (sym c.len.ensures.len) ∙ c.in_ok-form.ensures in
    let more = c.in_ok-push_form.ensures.added in
    let keeps =
    kept c.args.n line items c.push_form.new.items f found more c.loop-line.invariant.few
    c.loop-line.invariant.processes in
    let fewer = ap length c.in-Some.ensures in
    let left = c.loop-line.invariant.left in
    record {
      reads =
          turn c.args.n c.loop-line.lines c.next_numbers.new.self line items c.push_form.new.items f c.in-Some.ensures
          found more
          ∙ c.loop-line.invariant.reads;
      few = keeps.0;
      processes = keeps.1;
      fits = c.in_ok-push_form.ensures.fits;
      left = omega (arith, fewer, left);
      same = c.loop-line.invariant.same;
    }
