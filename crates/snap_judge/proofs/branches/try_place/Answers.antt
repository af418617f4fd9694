-- `try_place` of snap_judge (src/branches.rt).
use Rattle.std.proofs.Common.{refl, rules}
use Rattle.snap_judge.proofs.Entering.{all_tried, has_tried, rest_waits}
use Rattle.snap_judge.proofs.branches.try_place.Goals as goal

pub returns-in_default-clause-none : goal.returns-in_default-clause-none
returns-in_default-clause-none c =
    all_tried _ _ c.args.steps.now c.args.order.now.items c.args.node.now c.requires.node
    (rest_waits c.args.steps.now c.args.node.now c.requires.tried (search rules))

pub returns-clause-some : goal.returns-clause-some
returns-clause-some c =
    let found = c.in-Some.ensures.some in
    has_tried c.args.steps.now c.args.node.now _ c.args.order.now.items c.enter.new.order.items c.in-Some.update
    c.in_ok-entered.entered c.requires.node c.requires.tried found.0 found.1 found.2 refl refl refl refl
    c.requires.begun c.in_ok-entered.ensures.entered
