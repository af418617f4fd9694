-- `retry` of snap_judge (src/search.rt): what its loop keeps, and that tries go.
use Rattle.std.proofs.Common.{◌≡◌}
use Rattle.snap_judge.specs.Nodes.{HasNode, IsTrail, KeepsTrailCounts, tries_left}
use Rattle.snap_judge.proofs.search.retry.Given as goal

abbrev pub invariant-loop-node : goal.invariant-loop-node
invariant-loop-node l = record {
  trail : IsTrail l.steps l.trail;
  node : HasNode l.steps l.trail l.node;
  kept : KeepsTrailCounts l.initial.trail l.trail;
  nodes : l.trail.nodes.items ≡ l.initial.trail.nodes.items;
  failed : l.trail.failed.keys ≡ l.initial.trail.failed.keys;
}

abbrev pub decreases-loop-node : goal.decreases-loop-node
decreases-loop-node l = tries_left l.node
