-- `conclude` of snap_certify (src/certification.rt): the proof of what its contract says.
use Rattle.std.proofs.Common.{IfOk, ap, subst, ◌≡◌, ◌∙◌}
use Rattle.snap_runs.specs.Run.{Run}
use Rattle.snap_machine.specs.Configuration.{Configuration}
use Rattle.snap_certify.specs.Certification.{certification_of, seen_certification}
use Rattle.snap_certify.proofs.Worth.{same_run}
use Rattle.snap_certify.proofs.certification.conclude.Goals as goal

pub returns : goal.returns
returns g c =
    let schedule = c.in_ok-schedule.ensures in
    subst (λ (r : Run). IfOk c.certification_over.result (λ x. seen_certification x ≡ certification_of r))
    (same_run c.args.history.now c.program.result.now c.in_ok-schedule.schedule
    (c.program.ensures.value ∙ ap (λ (m : Configuration). m.source) c.machine.ensures) schedule.shape schedule.items)
    c.certification_over.ensures
