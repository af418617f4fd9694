-- `events_of` of snap_history_text (src/reader.rt): what holds at the head of each of its loops.
use Rattle.std.proofs.Common.{◌≡◌, length, replicate}
use Rattle.snap_judge.specs.History.{Free}
use Rattle.snap_history_text.specs.HistoryText.{events_of}
use Rattle.snap_history_text.specs.ReaderSteps.{prefixed, view_callers}
use Rattle.snap_history_text.proofs.reader.events_of.Given as goal

-- the events so far, and those of the lines that are left
abbrev pub invariant-loop-callers : goal.invariant-loop-callers
invariant-loop-callers l = record {
  reads : prefixed l.events.items (events_of l.shape l.last (view_callers l.callers.items) l.lines)
      ≡ events_of l.fn.shape 0 (replicate l.fn.shape.n Free) l.fn.lines;
  each : length l.callers.items ≡ l.shape.n;
  same : l.shape ≡ l.fn.shape;
}

abbrev pub decreases-loop-callers : goal.decreases-loop-callers
decreases-loop-callers l = length l.lines
