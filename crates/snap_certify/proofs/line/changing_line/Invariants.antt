-- `changing_line` of snap_certify (src/line.rt): what holds at the head of each of its loops.
use Rattle.std.proofs.Common.{◌-◌, length}
use Rattle.snap_runs.specs.Run.{run_over}
use Rattle.snap_certify.proofs.Passing.{Seeks}
use Rattle.snap_certify.proofs.line.changing_line.Given as goal

-- no item that was passed changes the values
abbrev pub invariant-loop-values : goal.invariant-loop-values
invariant-loop-values g l = Seeks (run_over l.program l.schedule) l.walk l.values

abbrev pub decreases-loop-values : goal.decreases-loop-values
decreases-loop-values g l = length l.walk.run.items - l.walk.at
