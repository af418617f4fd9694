-- `event_lines` of snap_report (src/event_text.rt): what holds at the head of each of its loops.
use Rattle.std.proofs.Common.{◌≡◌, ◌++◌, drop, false}
use Rattle.snap_semantics.specs.Report.{event_lines}
use Rattle.snap_report.proofs.event_text.event_lines.Given as goal

abbrev pub invariant-loop-event : goal.invariant-loop-event
invariant-loop-event l =
    l.out.failed ≡ false →
    (l.fn.out.failed ≡ false)
    × (l.out.text ++ event_lines (drop l.event-index l.events) ≡ l.fn.out.text ++ event_lines l.events)
