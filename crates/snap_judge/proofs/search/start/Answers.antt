-- `start` of snap_judge (src/search.rt).
use Rattle.std.proofs.Common.{List, [], length, sym, subst, refl, arith, ap, ◌≡◌}
use Rattle.std.specs.List.{All, IsDistinct}
use Rattle.std.proofs.lemmas.List.Elements.{All-nil}
use Rattle.snap_judge.specs.Kept.{AreSteps, Can}
use Rattle.snap_judge.specs.declared.config.Config.{Config}
use Rattle.snap_judge.specs.declared.config.Node.{Node}
use Rattle.snap_judge.specs.declared.config.Step.{Step as KeptStep}
use Rattle.snap_judge.specs.declared.search.Trail.{Trail}
use Rattle.snap_judge.specs.contracts.config.ConfigPartialEq.TheImpl as config_eq
use Rattle.snap_judge.specs.Nodes.{AreNodes, HasSame, IsMet, IsTrail, OnlyNodesLeft}
use Rattle.snap_judge.proofs.Searching.{first_config, no_nodes, started, started_fails}
use Rattle.snap_judge.proofs.search.start.Goals as goal

none_distinct : IsDistinct (config_eq.ghosts).eq []
unfolding IsDistinct
none_distinct = tt

-- a trail that has kept nothing
new_trail : (steps : List KeptStep) (trail : Trail) → AreSteps trail.processes trail.words steps →
    trail.nodes.items ≡ [] → trail.failed.keys ≡ [] → IsTrail steps trail
new_trail steps trail are nodes failed = record {
  are_steps = are;
  nodes = subst (AreNodes trail.processes trail.words steps trail.order.items) (sym nodes) no_nodes;
  failed = subst (All (λ (c : Config). Can steps c → ⊥)) (sym failed) (All-nil (λ (c : Config). Can steps c → ⊥));
  met = subst (All (IsMet trail.processes trail.words steps)) (sym failed)
      (All-nil (IsMet trail.processes trail.words steps));
  unique = subst (IsDistinct (config_eq.ghosts).eq) (sym failed) none_distinct;
  apart = subst (All (λ (node : Node). HasSame trail.failed.keys node.config → ⊥)) (sym nodes)
      (All-nil (λ (node : Node). HasSame trail.failed.keys node.config → ⊥));
}

pub is_dead-requires-clause-config : goal.is_dead-requires-clause-config
is_dead-requires-clause-config c =
    let values = c.in_ok-vec.ensures.items_if_clones_equal (λ y same. same) in
    let slots = c.in_ok-vec-2.ensures.items_if_clones_equal (λ y same. same) in
    let goes = rw c.requires.order at c.in_ok-at_end.ensures.goes_on in
    goes.config (first_config c.args.trail.now.processes c.args.trail.now.words c.args.steps.now _ refl values slots)

pub returns-then-is_dead-clause-trail : goal.returns-then-is_dead-clause-trail
returns-then-is_dead-clause-trail c = new_trail c.args.steps.now _ c.requires.steps c.requires.nodes c.requires.failed

pub returns-clause-trail : goal.returns-clause-trail
returns-clause-trail c = new_trail c.args.steps.now _ c.requires.steps c.requires.nodes c.requires.failed

pub returns-then-is_dead-clause-none : goal.returns-then-is_dead-clause-none
returns-then-is_dead-clause-none c =
    let first : Config = record { position = 0; values = c.in_ok-vec.field-0; slots = c.in_ok-vec-2.field-0 } in
    let values = c.in_ok-vec.ensures.items_if_clones_equal (λ y same. same) in
    let slots = c.in_ok-vec-2.ensures.items_if_clones_equal (λ y same. same) in
    started_fails c.args.trail.now.processes c.args.trail.now.words c.args.steps.now first refl values slots
    c.advance.new.config c.advance.new.order.items (rw c.requires.order at c.in_ok-at_end.ensures.goes_on)
    (c.is_dead.ensures.dead c.if-is_dead.true)

pub returns-clause-some : goal.returns-clause-some
returns-clause-some c =
    let first : Config = record { position = 0; values = c.in_ok-vec.field-0; slots = c.in_ok-vec-2.field-0 } in
    let values = c.in_ok-vec.ensures.items_if_clones_equal (λ y same. same) in
    let slots = c.in_ok-vec-2.ensures.items_if_clones_equal (λ y same. same) in
    let goes = rw c.requires.order at c.in_ok-at_end.ensures.goes_on in
    record {
      entered = started c.args.trail.now.processes c.args.trail.now.words c.args.steps.now first refl values slots
          c.advance.new.config c.advance.new.order.items goes c.in_ok-at_end.at_end c.in_ok-at_end.ensures.kept
          c.in_ok-at_end.ensures.settled c.in_ok-at_end.ensures.end c.in_ok-at_end.ensures.stuck;
      deeper = λ t d lt. absurd (let none : length c.args.trail.now.nodes.items ≡ 0 = ap length c.requires.nodes in
          omega (arith, lt, none));
      alive = c.is_dead.ensures.alive c.if-is_dead.false;
      left = λ fails. subst (OnlyNodesLeft c.args.trail.now.processes c.args.trail.now.words c.args.steps.now)
          (sym c.requires.nodes)
          (let nothing = started_fails c.args.trail.now.processes c.args.trail.now.words c.args.steps.now first refl
          values slots c.advance.new.config c.advance.new.order.items goes fails in (λ none. nothing, λ d. nothing));
    }
