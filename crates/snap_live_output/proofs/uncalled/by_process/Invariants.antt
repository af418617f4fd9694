-- `by_process` of snap_live_output (src/uncalled.rt): what holds at the head of each of its loops.
use Rattle.std.proofs.Common.{◌≡◌, ◌++◌, ◌+◌, drop}
use Rattle.snap_live_output.specs.Uncalled.{by_process}
use Rattle.snap_live_output.proofs.uncalled.by_process.Given as goal

-- the calls so far, and those of the processes that are left
abbrev pub invariant-loop-k : goal.invariant-loop-k
invariant-loop-k l =
    l.found.items ++ by_process (l.k + 1) (drop l.k l.scripts) l.calls ≡ by_process 1 l.scripts l.calls
