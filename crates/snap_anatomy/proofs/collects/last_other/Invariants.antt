-- `last_other` of snap_anatomy (src/collects.rt): what holds at the head of each of its loops.
use Rattle.std.proofs.Common.{◌≡◌, ◌≤◌, length}
use Rattle.snap_anatomy.specs.Collects.{last_other}
use Rattle.snap_anatomy.proofs.collects.last_other.Given as goal

abbrev pub invariant-loop-j : goal.invariant-loop-j
invariant-loop-j l =
    (last_other l.steps l.name l.reads l.j ≡ last_other l.steps l.name l.reads (length l.reads))
    × (l.j ≤ length l.reads)

abbrev pub decreases-loop-j : goal.decreases-loop-j
decreases-loop-j l = l.j
