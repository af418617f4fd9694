-- `points` of snap_certify (src/certification.rt): what holds at the head of each of its loops.
use Rattle.std.proofs.Common.{◌≡◌, drop}
use Rattle.snap_certify.specs.Certification.{points}
use Rattle.snap_certify.proofs.certification.points.Given as goal

-- each scan so far has its point
abbrev pub invariant-loop-verdict : goal.invariant-loop-verdict
invariant-loop-verdict l = points (drop l.verdict-index l.verdicts) ≡ points l.verdicts
