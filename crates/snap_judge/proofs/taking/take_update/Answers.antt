-- `take_update` of snap_judge (src/taking.rt).
use Rattle.std.proofs.Common.{ℕ, List, sym, ◌∙◌, ap, subst}
use Rattle.snap_runs.specs.Linearization.{after}
use Rattle.snap_judge.specs.Kept.{GoesOn}
use Rattle.snap_judge.proofs.Goes.{still_config}
use Rattle.snap_judge.proofs.TakingUpdates.{has_taken}
use Rattle.snap_judge.proofs.taking.take_update.Goals as goal

pub take_scans-requires : goal.take_scans-requires
take_scans-requires c =
    let u = c.requires.update in
    still_config c.args.steps.now c.args.order.now.items c.args.config.now c.put.new.config c.args.update.place
    c.args.update.call c.put.ensures.position
    (c.put.ensures.values ∙ sym (ap (after c.args.config.now.values.items) u.action)) c.put.ensures.slots
    c.requires.config u.is

pub returns-clause-taken : goal.returns-clause-taken
returns-clause-taken c =
    let u = c.requires.update in
    has_taken c.args.steps.now c.args.order.now.items c.take_scans.new.order.items c.args.config.now c.put.new.config
    c.take_scans.new.config c.args.update.place c.args.update.call c.args.update.word c.args.update.value
    c.put.ensures.position c.put.ensures.values c.put.ensures.slots u.is_word u.is u.action c.requires.config
    (subst (λ (os : List ℕ). GoesOn c.args.steps.now os c.put.new.config c.take_scans.new.order.items
    c.take_scans.new.config) c.in_ok-push.ensures.items c.in_ok-take_scans.ensures.goes_on)
