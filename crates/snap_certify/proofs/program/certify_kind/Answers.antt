-- `certify_kind` of snap_certify (src/program.rt): the proof of what its contract says.
use Rattle.snap_certify.proofs.Judging.{over_schedule}
use Rattle.snap_certify.proofs.program.certify_kind.Goals as goal

pub returns : goal.returns
returns g c =
    over_schedule c.args.program.now c.args.schedule.now c.in_ok-schedule.schedule c.in_ok-certify_run.field-0.items
    c.in_ok-schedule.ensures c.in_ok-certify_run.ensures
