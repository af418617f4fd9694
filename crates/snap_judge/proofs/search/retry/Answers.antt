-- `retry` of snap_judge (src/search.rt).
use Rattle.std.proofs.Common.{◌≡◌, ℕ, ◌<◌, List, ◌∷◌, length, get_or, sym, subst, ap, arith, rules}
use Rattle.std.specs.List.{All}
use Rattle.std.proofs.lemmas.List.Elements.{All-push}
use Rattle.std.proofs.lemmas.List.Sorted.{length_permutation}
use Rattle.snap_judge.specs.Kept.{Can}
use Rattle.snap_judge.specs.declared.config.Config.{Config}
use Rattle.snap_judge.specs.declared.config.Node.{Node}
use Rattle.snap_judge.specs.Nodes.{AreNodes, HasSame, IsMet, OnlyNodesLeft}
use Rattle.snap_judge.proofs.Meeting.{moved_key, node_met, still_apart}
use Rattle.snap_judge.proofs.Searching.{are_front, behind_last, last_is, put_key, retried, retried_deeper, retried_entered, retried_left}
use Rattle.snap_judge.proofs.search.retry.Goals as goal

pub returns-clause-none : goal.returns-clause-none
returns-clause-none c =
    behind_last c.loop-node.trail.nodes.items c.loop-node.node c.loop-node.invariant.node.nodes
    (rw c.in_default.is at c.in_ok-entered.ensures.none)

pub returns-clause-trail : goal.returns-clause-trail
returns-clause-trail c =
    let inv = c.loop-node.invariant in
    let n = c.loop-node.trail.processes in
    let w = c.loop-node.trail.words in
    let none = rw c.in_default.is at c.in_ok-entered.ensures.none in
    let kept = rw c.in_default.is at c.in_ok-entered.ensures.kept in
    let same = c.in_ok-entered.ensures.same in
    record {
      are_steps = inv.trail.are_steps;
      nodes = subst (λ (os : List ℕ). AreNodes n w c.args.steps.now os c.loop-node.trail.nodes.items) (sym kept)
          inv.trail.nodes;
      failed = put_key (λ (x : Config). Can c.args.steps.now x → ⊥) c.loop-node.trail.failed c.insert.new.self _ _
          c.in_ok-insert.ensures.keys inv.trail.failed (λ can. none (subst (Can c.args.steps.now) same can));
      met = put_key (IsMet n w c.args.steps.now) c.loop-node.trail.failed c.insert.new.self _ _
          c.in_ok-insert.ensures.keys inv.trail.met
          (subst (IsMet n w c.args.steps.now) (sym same) (node_met _
          (last_is c.loop-node.trail.nodes.items c.loop-node.node inv.node.nodes)));
      unique = c.in_ok-insert.ensures.unique;
      apart = still_apart c.loop-node.trail.nodes.items c.loop-node.node c.loop-node.trail.failed.keys
          c.insert.new.self.keys inv.trail.are_steps inv.node.nodes
          (moved_key c.loop-node.trail.failed c.insert.new.self c.try_next.new.node.config c.loop-node.node.config
          c.in_ok-insert.field-0 same c.in_ok-insert.ensures.keys c.in_ok-insert.ensures.added inv.node.apart)
          inv.trail.apart;
    }

pub returns-clause-count : goal.returns-clause-count
returns-clause-count c =
    let inv = c.loop-node.invariant in
    let moved = moved_key c.loop-node.trail.failed c.insert.new.self c.try_next.new.node.config
    c.loop-node.node.config c.in_ok-insert.field-0 c.in_ok-entered.ensures.same c.in_ok-insert.ensures.keys
    c.in_ok-insert.ensures.added inv.node.apart in
    let more : length c.insert.new.self.keys ≡ length (c.loop-node.node.config ∷ c.loop-node.trail.failed.keys) =
    length_permutation (c.loop-node.node.config ∷ c.loop-node.trail.failed.keys) c.insert.new.self.keys moved in
    let nodes : length c.loop-node.trail.nodes.items ≡ length c.args.trail.now.nodes.items = ap length inv.nodes in
    let failed : length c.loop-node.trail.failed.keys ≡ length c.args.trail.now.failed.keys = ap length inv.failed in
    omega (arith, more, nodes, failed)

pub loop-node-preserved : goal.loop-node-preserved
loop-node-preserved c =
    let inv = c.loop-node.invariant in
    let has = rw c.in-Some.is at c.in_ok-entered.ensures.some in
    let is = c.if-not-is_dead.false in
    let nodes = retried c.loop-node.trail.nodes.items inv.node.nodes has in
    record {
      trail = record {
        are_steps = inv.trail.are_steps;
        nodes = are_front c.loop-node.trail.nodes.items c.try_next.new.node nodes;
        failed = inv.trail.failed;
        met = inv.trail.met;
        unique = inv.trail.unique;
        apart = inv.trail.apart;
      };
      node = record {
        nodes = nodes;
        tried = has.tried (c.is_dead.ensures.dead (search rules));
        apart = subst (λ (x : Config). HasSame c.loop-node.trail.failed.keys x → ⊥) (sym has.config) inv.node.apart;
      };
      kept = record { processes = inv.kept.processes; words = inv.kept.words };
      nodes = inv.nodes;
      failed = inv.failed;
    }

pub returns-then-not-is_dead-clause-trail : goal.returns-then-not-is_dead-clause-trail
returns-then-not-is_dead-clause-trail c =
    let inv = c.loop-node.invariant in
    let has = rw c.in-Some.is at c.in_ok-entered.ensures.some in
    record {
      are_steps = inv.trail.are_steps;
      nodes = subst (AreNodes c.loop-node.trail.processes c.loop-node.trail.words c.args.steps.now
          c.try_next.new.order.items) (sym c.in_ok-push.ensures.items)
          (retried c.loop-node.trail.nodes.items inv.node.nodes has);
      failed = inv.trail.failed;
      met = inv.trail.met;
      unique = inv.trail.unique;
      apart = subst (All (λ (x : Node). HasSame c.loop-node.trail.failed.keys x.config → ⊥))
          (sym c.in_ok-push.ensures.items)
          (All-push (λ (x : Node). HasSame c.loop-node.trail.failed.keys x.config → ⊥) c.loop-node.trail.nodes.items
          c.try_next.new.node inv.trail.apart
          (subst (λ (x : Config). HasSame c.loop-node.trail.failed.keys x → ⊥) (sym has.config) inv.node.apart));
    }

pub returns-then-not-is_dead-clause-some : goal.returns-then-not-is_dead-clause-some
returns-then-not-is_dead-clause-some c =
    let inv = c.loop-node.invariant in
    let has = rw c.in-Some.is at c.in_ok-entered.ensures.some in
    let is = c.if-not-is_dead.true in
    record {
      entered = retried_entered c.loop-node.trail.nodes.items inv.node.nodes has;
      deeper = subst (λ (l : List Node). (t : ℕ) (d : Node) → t < length l →
          (get_or l t d).depth < length c.try_next.new.order.items) (sym c.in_ok-push.ensures.items)
          (retried_deeper c.loop-node.trail.nodes.items inv.node.nodes has);
      alive = c.is_dead.ensures.alive (search rules);
      left = λ fails. subst (OnlyNodesLeft c.loop-node.trail.processes c.loop-node.trail.words c.args.steps.now)
          (sym c.in_ok-push.ensures.items)
          (retried_left c.loop-node.trail.nodes.items inv.node.nodes has fails);
    }
