-- `many_collects` of snap_hunt (src/failing.rt): what holds at the head of each of its loops.
use Rattle.std.proofs.Common.{◌≡◌, drop}
use Rattle.snap_hunt.specs.Failing.{many_collects}
use Rattle.snap_hunt.proofs.failing.many_collects.Given as goal

-- the first of all verdicts is the first of those that are left
abbrev pub invariant-loop-verdict : goal.invariant-loop-verdict
invariant-loop-verdict l = many_collects l.most (drop l.verdict-index l.verdicts) ≡ many_collects l.most l.verdicts
