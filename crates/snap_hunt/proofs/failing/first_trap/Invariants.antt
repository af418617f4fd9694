-- `first_trap` of snap_hunt (src/failing.rt): what holds at the head of each of its loops.
use Rattle.std.proofs.Common.{◌≡◌, ◌+◌, ◌-◌}
use Rattle.snap_hunt.specs.Failing.{first_trap}
use Rattle.snap_hunt.proofs.failing.first_trap.Given as goal

-- what is left has the first
abbrev pub invariant-loop-k : goal.invariant-loop-k
invariant-loop-k g l =
    first_trap l.machine.state (l.k + 1) (l.machine.shape.n - l.k) ≡ first_trap l.machine.state 1 l.machine.shape.n
