-- `keeps_promises` of snap_promised (src/lib.rt): the proof of what its contract says.
use Rattle.snap_record.proofs.Within.{run_fits}
use Rattle.snap_shipped.specs.Shipped.{shipped}
use Rattle.snap_promised.proofs.Shipped.{fits_shipped, suffice}
use Rattle.snap_promised.proofs.keeps_promises.Goals as goal

pub returns-clause-fits : goal.returns-clause-fits
returns-clause-fits g c = run_fits (shipped g.K.Kind.TAG) c.args.schedule.now c.shape-shape.ensures.schedule

pub returns-clause-promises : goal.returns-clause-promises
returns-clause-promises g c =
    let schedule = c.args.schedule.now in
    c.shipped_runs_keep_promises.ensures g.K.Kind.TAG schedule.shape schedule.items
    c.shape-shape.ensures.schedule.shape (fits_shipped g.K.Kind.TAG schedule.shape c.requires)
    (suffice g.K.Kind.TAG schedule.items c.shape-shape.ensures.schedule.few)
