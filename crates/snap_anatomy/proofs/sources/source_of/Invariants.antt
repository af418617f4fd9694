-- `source_of` of snap_anatomy (src/sources.rt): what holds at the head of each of its loops.
use Rattle.std.proofs.Common.{◌≡◌, ◌≤◌, IfSome, Some, length}
use Rattle.snap_acts.specs.declared.loans.ScanPlaces.{ScanPlaces}
use Rattle.snap_anatomy.specs.Sources.{source_of}
use Rattle.snap_anatomy.proofs.sources.source_of.Given as goal

abbrev pub invariant-loop-left : goal.invariant-loop-left
invariant-loop-left l =
    (source_of l.steps l.next l.left ≡ source_of l.steps (Some l.fn.first) (length l.steps))
    × IfSome l.next (λ (s : ScanPlaces). s.to ≤ length l.steps)

abbrev pub decreases-loop-left : goal.decreases-loop-left
decreases-loop-left l = l.left
