-- `descend` of snap_judge (src/search.rt).
use Rattle.std.proofs.Common.{ℕ, ap, take, ◌-◌, ◌∙◌}
use Rattle.std.proofs.lemmas.List.{append-nil}
use Rattle.snap_judge.specs.declared.config.Node.{Node}
use Rattle.snap_judge.specs.Nodes.{HasSame}
use Rattle.snap_judge.proofs.Searching.{all_front, are_front, fails_last, without_nodes}
use Rattle.snap_judge.proofs.search.descend.Goals as goal

pub retry-requires-clause-trail : goal.retry-requires-clause-trail
retry-requires-clause-trail c =
    let trail = c.loop-node.invariant.trail in
    record {
      are_steps = trail.are_steps;
      nodes = are_front c.pop.new.self.items c.in-Some.node (rw c.in-Some.ensures.items at trail.nodes);
      failed = trail.failed;
      met = trail.met;
      unique = trail.unique;
      apart = (all_front (λ (x : Node). HasSame c.loop-node.trail.failed.keys x.config → ⊥) c.pop.new.self.items
          c.in-Some.node (rw c.in-Some.ensures.items at trail.apart)).0;
    }

pub retry-requires-clause-node : goal.retry-requires-clause-node
retry-requires-clause-node c = record {
  nodes = rw c.in-Some.ensures.items at c.loop-node.invariant.trail.nodes;
  tried = rw (
    c.in-Some.ensures.items,
    fails_last c.loop-node.trail.processes c.loop-node.trail.words
        c.args.steps.now c.in-Some.node c.pop.new.self.items c.in-Some.node,
  )
      at (c.loop-node.invariant.left.1 c.in-Some.node);
  apart = (all_front (λ (x : Node). HasSame c.loop-node.trail.failed.keys x.config → ⊥) c.pop.new.self.items
      c.in-Some.node (rw c.in-Some.ensures.items at c.loop-node.invariant.trail.apart)).1;
}

pub returns-clause-none : goal.returns-clause-none
returns-clause-none c =
    without_nodes c.args.trail.now.processes c.args.trail.now.words c.loop-node.trail.processes
    c.loop-node.trail.words c.args.steps.now c.loop-node.trail.nodes.items c.loop-node.invariant.kept.processes
    c.loop-node.invariant.kept.words c.loop-node.invariant.left
    (c.in_default.ensures.items ∙ append-nil c.pop.new.self.items ∙ c.in_default.ensures.rest
    ∙ ap (λ (m : ℕ). take (m - 1) c.loop-node.trail.nodes.items) c.in_default.ensures.cases.0)
