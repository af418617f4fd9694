-- `items_of` of snap_sched (src/reader.rt): the proof of what its contract says.
use Rattle.std.proofs.Common.{ap, sym, ◌∙◌, Err}
use Rattle.snap_words.specs.Shape.{max_items}
use Rattle.snap_semantics.specs.Schedule.{items_of}
use Rattle.snap_sched.proofs.Lines.{passed_on, taken}
use Rattle.snap_sched.proofs.reader.items_of.Goals as goal

pub push_step_lines-requires-clause-processes : goal.push_step_lines-requires-clause-processes
push_step_lines-requires-clause-processes c =
    (taken c.args.n c.len.result c.loop-items.lines c.next_form.new.lines c.loop-items.items c.push_form.new.items
    c.in_ok-form.field-0 c.in-Some.form c.len.ensures.len c.in_ok-form.ensures c.in-Some.is
    c.in_ok-push_form.ensures.added c.loop-items.invariant.few c.loop-items.invariant.processes).2

pub loop-items-preserved : goal.loop-items-preserved
loop-items-preserved c =
    let read =
    taken c.args.n c.len.result c.loop-items.lines c.next_form.new.lines c.loop-items.items c.push_form.new.items
    c.in_ok-form.field-0 c.in-Some.form c.len.ensures.len c.in_ok-form.ensures c.in-Some.is
    c.in_ok-push_form.ensures.added c.loop-items.invariant.few c.loop-items.invariant.processes in
    let steps = c.in_ok-push_step_lines.ensures in
    record {
      reads = steps.same ∙ read.0 ∙ c.loop-items.invariant.reads;
      few = steps.few;
      processes = steps.processes;
      fits = steps.fits;
      same = c.loop-items.invariant.same;
    }

pub returns-in_err-push_step_lines-clause-items : goal.returns-in_err-push_step_lines-clause-items
returns-in_err-push_step_lines-clause-items c =
    let read =
    taken c.args.n c.len.result c.loop-items.lines c.next_form.new.lines c.loop-items.items c.push_form.new.items
    c.in_ok-form.field-0 c.in-Some.form c.len.ensures.len c.in_ok-form.ensures c.in-Some.is
    c.in_ok-push_form.ensures.added c.loop-items.invariant.few c.loop-items.invariant.processes in
    passed_on (λ xs. xs) c.from_residual-in_err-push_step_lines.result c.in_err-push_step_lines.field-0.0
    (items_of c.args.n max_items c.args.lines.now) c.from_residual-in_err-push_step_lines.ensures
    (λ e why. sym (read.0 ∙ c.loop-items.invariant.reads) ∙ c.in_err-push_step_lines.ensures.refused e (ap Err why))
