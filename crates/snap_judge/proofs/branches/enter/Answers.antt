-- `enter` of snap_judge (src/branches.rt).
use Rattle.std.proofs.Common.{ℕ, List, subst}
use Rattle.snap_judge.specs.Choices.{HasTaken}
use Rattle.snap_judge.proofs.Goes.{same_goes}
use Rattle.snap_judge.proofs.Entering.{has_entered}
use Rattle.snap_judge.proofs.branches.enter.Goals as goal

pub take_update-requires-clause-config : goal.take_update-requires-clause-config
take_update-requires-clause-config c =
    (same_goes c.args.steps.now c.args.order.now.items c.args.node.now.config c.in_ok-config.config
    c.in_ok-config.ensures).config c.requires.node.config

pub advance-requires-clause-config : goal.advance-requires-clause-config
advance-requires-clause-config c =
    c.in_ok-take_update.ensures.taken.config
    ((same_goes c.args.steps.now c.args.order.now.items c.args.node.now.config c.in_ok-config.config
    c.in_ok-config.ensures).config c.requires.node.config)

pub returns : goal.returns
returns c =
    record {
      entered =
          has_entered c.args.steps.now c.args.node.now c.args.update.place c.args.order.now.items
          c.take_update.new.order.items c.advance.new.order.items c.in_ok-config.config c.take_update.new.config
          c.advance.new.config _ c.requires.node c.in_ok-config.ensures
          (subst (λ (os : List ℕ). HasTaken c.args.steps.now c.args.update.place os c.in_ok-config.config
          c.take_update.new.order.items c.take_update.new.config) c.truncate.ensures.items c.in_ok-take_update.ensures.taken)
          c.in_ok-at_end.ensures.goes_on c.in_ok-take_update.ensures.kept c.in_ok-at_end.ensures.kept
          c.in_ok-at_end.ensures.settled c.in_ok-at_end.ensures.end c.in_ok-at_end.ensures.stuck;
    }
