-- `events_of` of snap_history_text (src/reader.rt): the proof of what its contract says.
use Rattle.std.proofs.Common.{ap, sym, ◌∙◌, arith}
use Rattle.snap_history_text.specs.ReaderSteps.{next_event, view_callers}
use Rattle.snap_history_text.proofs.Noted.{still_as_many}
use Rattle.snap_history_text.proofs.Reading.{begins, line_known, one_read}
use Rattle.snap_history_text.proofs.reader.events_of.Goals as goal

pub note_event-requires : goal.note_event-requires
note_event-requires c =
    let callers = c.loop-callers.callers.items in
    let next =
    ap (λ cs. next_event c.args.shape c.loop-callers.last (view_callers cs) c.loop-callers.lines)
    (sym c.as_slice.ensures.value) ∙ c.in_ok-event.ensures in
    let starts =
    begins c.args.shape c.loop-callers.last (view_callers callers) c.loop-callers.lines c.in_ok-event.field-0
    c.in-Some.event c.next_event.new.lines next c.in-Some.is in
    let known =
    line_known c.args.shape c.loop-callers.last (view_callers callers) starts.line c.in-Some.event starts.event in
    let within = known.process.1 in
    let each = c.loop-callers.invariant.each in
    (known.process.0, omega (arith, within, each))

pub loop-callers-preserved : goal.loop-callers-preserved
loop-callers-preserved c =
    let callers = c.loop-callers.callers.items in
    let next =
    ap (λ cs. next_event c.args.shape c.loop-callers.last (view_callers cs) c.loop-callers.lines)
    (sym c.as_slice.ensures.value) ∙ c.in_ok-event.ensures in
    let starts =
    begins c.args.shape c.loop-callers.last (view_callers callers) c.loop-callers.lines c.in_ok-event.field-0
    c.in-Some.event c.next_event.new.lines next c.in-Some.is in
    record {
      reads =
          one_read c.args.shape c.loop-callers.last (view_callers callers)
          (view_callers c.note_event.new.callers.items) c.loop-callers.lines c.in-Some.event c.next_event.new.lines
          c.loop-callers.events.items c.push.new.self.items starts c.note_event.ensures c.in_ok-push.ensures.items
          ∙ c.loop-callers.invariant.reads;
      each =
          still_as_many callers c.note_event.new.callers.items c.in-Some.event c.note_event.ensures
          ∙ c.loop-callers.invariant.each;
      same = c.loop-callers.invariant.same;
    }
