-- `free_callers` of snap_history_text (src/callers.rt): what holds at the head of each of its loops.
use Rattle.std.proofs.Common.{◌≡◌, replicate}
use Rattle.snap_judge.specs.History.{Free}
use Rattle.snap_history_text.specs.ReaderSteps.{view_callers}
use Rattle.snap_history_text.proofs.callers.free_callers.Given as goal

abbrev pub invariant-loop-k : goal.invariant-loop-k
invariant-loop-k l = view_callers l.callers.items ≡ replicate l._k Free
