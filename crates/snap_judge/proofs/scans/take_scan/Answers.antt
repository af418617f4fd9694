-- `take_scan` of snap_judge (src/scans.rt).
use Rattle.std.proofs.Common.{◌∙◌, sym, refl, ap}
use Rattle.snap_runs.specs.Linearization.{after}
use Rattle.snap_runs.specs.Operation.{Sees}
use Rattle.snap_judge.proofs.Goes.{scan_taken, there}
use Rattle.snap_judge.proofs.scans.take_scan.Goals as goal

pub sees-requires : goal.sees-requires
sees-requires c =
    (c.requires.config.placed c.args.place c.in-Open.call
    (there _ _ _ _ c.requires.place c.index.ensures c.in-Open.is)).1

pub returns-in_ok-push-clause-goes_on : goal.returns-in_ok-push-clause-goes_on
returns-in_ok-push-clause-goes_on c =
    let seen = c.sees.ensures.0 c.if-sees.true in
    scan_taken c.args.steps.now c.args.order.now.items c.args.config.now _ c.args.place c.in-Open.call
    refl (sym (ap (after c.args.config.now.values.items)
    (seen ∙ ap Sees c.as_slice.ensures.value))) refl c.requires.config
    (there _ _ _ _ c.requires.place c.index.ensures c.in-Open.is)
    c.push.new.self.items c.in_ok-push.ensures.items (seen ∙ ap Sees c.as_slice.ensures.value)
