-- `writes_until` of snap_certify (src/text.rt): what holds at the head of each of its loops.
use Rattle.std.proofs.Common.{◌≡◌, ◌++◌, ◌-◌, drop, false, length}
use Rattle.snap_certify.specs.CertificationText.{update_lines, writes_after, writes_until}
use Rattle.snap_certify.proofs.text.writes_until.Given as goal

abbrev pub invariant-loop-k : goal.invariant-loop-k
invariant-loop-k l =
    (l.out.failed ≡ false →
    (l.fn.out.failed ≡ false)
    × (l.out.text ++ update_lines (writes_until l.item (drop l.k l.writes))
    ≡ l.fn.out.text ++ update_lines (writes_until l.item (drop l.next l.writes))))
    × (writes_after l.item (drop l.k l.writes) ≡ writes_after l.item (drop l.next l.writes))

abbrev pub decreases-loop-k : goal.decreases-loop-k
decreases-loop-k l = length l.writes - l.k
