-- `certification_over` of snap_certify (src/certification.rt): the proof of what its contract says.
use Rattle.std.proofs.Common.{ap, refl, ◌∙◌}
use Rattle.snap_runs.specs.Audit.{audit}
use Rattle.snap_runs.specs.Run.{run_over}
use Rattle.snap_audit.proofs.Watches.{whole_way}
use Rattle.snap_certify.specs.Finding.{all_of}
use Rattle.snap_certify.proofs.Worth.{lacks_nothing}
use Rattle.snap_certify.proofs.certification.certification_over.Goals as goal

pub verdicts-requires : goal.verdicts-requires
verdicts-requires g c =
    (all_of (run_over c.args.program.now c.args.schedule.now), c.in_ok-found.ensures.watches)

pub returns : goal.returns
returns g c =
    let r = run_over c.args.program.now c.args.schedule.now in
    let found = c.found-writes.ensures in
    c.pointed.ensures r
    (c.in_ok-verdicts-in-None.ensures (all_of r) c.in_ok-found.ensures.watches ∙ ap audit (whole_way (all_of r) refl))
    ∙ lacks_nothing r c.in_ok-line.line c.found-writes.result.1 c.found-writes.result.0.items c.in_ok-line.ensures.line
    (rw (c.in_ok-found.ensures.line, ← found.missing, ← found.writes) at c.in_ok-found.ensures.finds.found) c.in-None.is
