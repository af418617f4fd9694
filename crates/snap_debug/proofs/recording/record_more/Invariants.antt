-- `record_more` of snap_debug (src/recording.rt): what holds at the head of each of its loops.
use Rattle.std.proofs.Common.{◌≡◌, ◌+◌, length}
use Rattle.std.specs.List.{AllByRecursion}
use Rattle.snap_runs.specs.Run.{Run}
use Rattle.snap_debug.specs.Recording.{ContinuesWith, IsCheckpoint}
use Rattle.snap_debug.proofs.recording.record_more.Given as goal

-- the items that are recorded, and the checkpoints, which are the run's
abbrev pub invariant-loop-t : goal.invariant-loop-t
invariant-loop-t g l = record {
  begun : (r : Run) → ContinuesWith r l.fn.history l.fn.items → ContinuesWith r l.history l.items;
  kept : (r : Run) → ContinuesWith r l.fn.history l.fn.items → AllByRecursion (IsCheckpoint r) l.fn.later.items →
      AllByRecursion (IsCheckpoint r) l.later.items;
  size : length l.history.items ≡ length l.fn.history.items + l._t;
}
