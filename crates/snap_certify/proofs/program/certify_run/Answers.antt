-- `certify_run` of snap_certify (src/program.rt): the proof of what its contract says.
use Rattle.snap_runs.specs.Run.{run_over}
use Rattle.snap_certify.proofs.Judging.{when_missing}
use Rattle.snap_certify.proofs.program.certify_run.Goals as goal

pub returns : goal.returns
returns g c =
    when_missing (run_over c.args.program.now c.args.schedule.now) c.in_ok-record-in-Missing.record
    c.in_ok-certification.certification _ c.in_ok-text.text.items c.with_verdict.result
    c.in_ok-record-in-Missing.ensures c.in-Missing.is c.in_ok-certification.ensures c.in_ok-text.ensures
    c.with_verdict.ensures
