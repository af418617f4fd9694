-- `descend` of snap_judge (src/search.rt): what its loop keeps, and that nodes go.
use Rattle.std.proofs.Common.{◌≡◌, length}
use Rattle.snap_judge.specs.Nodes.{IsTrail, kept_by, KeepsTrailCounts, NothingLeft}
use Rattle.snap_judge.proofs.search.descend.Given as goal

abbrev pub invariant-loop-node : goal.invariant-loop-node
invariant-loop-node l = record {
  trail : IsTrail l.steps l.trail;
  kept : KeepsTrailCounts l.initial.trail l.trail;
  left : NothingLeft l.steps l.trail;
  count : kept_by l.trail ≡ kept_by l.initial.trail;
}

abbrev pub decreases-loop-node : goal.decreases-loop-node
decreases-loop-node l = length l.trail.nodes.items
