-- `no_point` of snap_hunt (src/failing.rt): what holds at the head of each of its loops.
use Rattle.std.proofs.Common.{◌≡◌, drop}
use Rattle.snap_hunt.specs.Failing.{no_point}
use Rattle.snap_hunt.proofs.failing.no_point.Given as goal

-- the first of all verdicts is the first of those that are left
abbrev pub invariant-loop-verdict : goal.invariant-loop-verdict
invariant-loop-verdict l = no_point (drop l.verdict-index l.verdicts) ≡ no_point l.verdicts
