-- `push_events` of snap_history_text (src/canonical_text.rt): what holds at the head of each of its loops.
use Rattle.std.proofs.Common.{◌≡◌, ◌++◌, drop, map}
use Rattle.snap_semantics.specs.Layout.{lines_text}
use Rattle.snap_history_text.specs.HistoryForms.{spelled_event}
use Rattle.snap_history_text.proofs.canonical_text.push_events.Given as goal

abbrev pub invariant-loop-event : goal.invariant-loop-event
invariant-loop-event l =
    l.out.items ++ lines_text (map spelled_event (drop l.event-index l.events))
    ≡ l.fn.out.items ++ lines_text (map spelled_event l.events)
