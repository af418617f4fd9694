-- `update_lines` of snap_certify (src/text.rt): what holds at the head of each of its loops.
use Rattle.std.proofs.Common.{◌≡◌, ◌++◌, ◌-◌, drop, false, length}
use Rattle.snap_certify.specs.CertificationText.{update_lines}
use Rattle.snap_certify.proofs.text.update_lines.Given as goal

abbrev pub invariant-loop-k : goal.invariant-loop-k
invariant-loop-k l =
    l.out.failed ≡ false →
    (l.fn.out.failed ≡ false)
    × (l.out.text ++ update_lines (drop l.k l.writes) ≡ l.fn.out.text ++ update_lines (drop l.from l.writes))

abbrev pub decreases-loop-k : goal.decreases-loop-k
decreases-loop-k l = length l.writes - l.k
