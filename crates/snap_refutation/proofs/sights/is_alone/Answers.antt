-- `is_alone` of snap_refutation (src/sights.rt).
use Rattle.snap_refutation.specs.Operations.{kept}
use Rattle.snap_refutation.proofs.Seeing.{alone}
use Rattle.snap_refutation.proofs.sights.is_alone.Goals as goal

pub returns-in-Some : goal.returns-in-Some
returns-in-Some c = λ now.
    alone (kept c.args.operations.now) c.in-Some.sight c.args.scan c.args.word c.args.seen c.in-Some.ensures
    (c.is_only.ensures now)
