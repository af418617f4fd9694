-- `scans_of` of snap_anatomy (src/scans.rt): what holds at the head of each of its loops.
use Rattle.std.proofs.Common.{◌≡◌}
use Rattle.snap_anatomy.specs.Scans.{scans_to}
use Rattle.snap_anatomy.proofs.scans.scans_of.Given as goal

abbrev pub invariant-loop-k : goal.invariant-loop-k
invariant-loop-k l = l.scans.items ≡ scans_to l.steps l.k
