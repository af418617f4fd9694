-- `push_calls_of` of snap_live_output (src/uncalled.rt): what holds at the head of each of its loops.
-- Adds those among some calls that are a process's.
use Rattle.std.proofs.Common.{◌≡◌, ◌++◌, drop}
use Rattle.snap_live_output.specs.Uncalled.{calls_of}
use Rattle.snap_live_output.proofs.uncalled.push_calls_of.Given as goal

-- the calls so far, and those of the calls that are left
abbrev pub invariant-loop-call : goal.invariant-loop-call
invariant-loop-call l =
    l.out.items ++ calls_of l.process (drop l.call-index l.calls) ≡ l.fn.out.items ++ calls_of l.process l.calls
