-- `open_operations` of snap_survey (src/surveyed.rt): what holds at the head of each of its loops.
use Rattle.std.proofs.Common.{◌≡◌, ◌≤◌}
use Rattle.snap_runs.specs.Scan.{count}
use Rattle.snap_survey.specs.Tally.{is_open_in}
use Rattle.snap_survey.proofs.surveyed.open_operations.Given as goal

-- the open operations of the first processes
abbrev pub invariant-loop-k : goal.invariant-loop-k
invariant-loop-k g l = (l.open ≡ count (is_open_in l.machine.state) 0 l.k) × (l.open ≤ l.k)
