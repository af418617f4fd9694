-- `enter_node` of snap_judge (src/search.rt).
use Rattle.std.proofs.Common.{false, rules, subst, sym}
use Rattle.std.specs.List.{All}
use Rattle.std.proofs.lemmas.List.Elements.{All-push}
use Rattle.snap_judge.specs.declared.config.Node.{Node}
use Rattle.snap_judge.specs.Nodes.{AreNodes, HasSame}
use Rattle.snap_judge.proofs.Searching.{entered_nodes}
use Rattle.snap_judge.proofs.search.enter_node.Goals as goal

pub returns-in_default-clause-left : goal.returns-in_default-clause-left
returns-in_default-clause-left c =
    let next = (c.requires.at.alive c.requires.stuck).1 in absurd (c.in_default.ensures.none _ next.1)

pub returns-in_default-clause-count : goal.returns-in_default-clause-count
returns-in_default-clause-count c =
    let next = (c.requires.at.alive c.requires.stuck).1 in absurd (c.in_default.ensures.none _ next.1)

pub returns-clause-trail : goal.returns-clause-trail
returns-clause-trail c =
    let node : Node = record {
      config = c.args.entered.config;
      depth = c.len-depth.result;
      begun = false;
      next = 0;
      ending = c.in-Some.ending;
    } in
    record {
      are_steps = c.requires.trail.are_steps;
      nodes = subst (AreNodes c.args.trail.now.processes c.args.trail.now.words c.args.steps.now
          c.args.trail.now.order.items) (sym c.in_ok-push.ensures.items)
          (entered_nodes c.args.trail.now.nodes.items c.len-depth.result c.in-Some.ending c.requires.trail.nodes
          c.requires.at.entered c.requires.stuck c.requires.at.deeper (search rules) c.in-Some.ensures.some
          c.requires.at.left);
      failed = c.requires.trail.failed;
      met = c.requires.trail.met;
      unique = c.requires.trail.unique;
      apart = subst (All (λ (x : Node). HasSame c.args.trail.now.failed.keys x.config → ⊥))
          (sym c.in_ok-push.ensures.items)
          (All-push (λ (x : Node). HasSame c.args.trail.now.failed.keys x.config → ⊥) c.args.trail.now.nodes.items node
          c.requires.trail.apart (c.requires.at.alive c.requires.stuck).0);
    }
