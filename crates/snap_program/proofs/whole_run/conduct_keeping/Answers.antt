-- `conduct_keeping` of snap_program (src/whole_run.rt): the proof of what its contract says.
use Rattle.std.proofs.Common.{refl}
use Rattle.snap_faults.specs.Faults.{of_input_fault}
use Rattle.snap_program.specs.TaskRun.{IsOutcomeOf}
use Rattle.snap_program.proofs.Runs.{not_read, refused, sends, still_kept, why_task}
use Rattle.snap_program.proofs.whole_run.conduct_keeping.Goals as goal

pub returns-in_err-kept : goal.returns-in_err-kept
returns-in_err-kept g c =
    not_read c.from_residual.result c.in_err-kept.field-0.0 c.from_residual.ensures c.in_err-kept.ensures

pub returns-in_err-found : goal.returns-in_err-found
returns-in_err-found g c =
    let from = c.from_residual-in_err-found in let fault = c.in_err-found.field-0.0 in
    refused from.result (of_input_fault fault) from.ensures c.in_ok-kept.field-0 c.in_ok-kept.ensures refl
    (still_kept fault c.in_err-found.ensures.kept)
    (why_task fault c.args.task.now c.in_ok-kept.field-0.items c.in_err-found.ensures.output)

pub returns : goal.returns
returns g c =
    let found = c.in_ok-found.ensures.output in
    sends (λ answer. IsOutcomeOf answer c.args.task.now) c.in_ok-kept.field-0 c.in_ok-kept.ensures refl
    found (λ e. (found.0, found.1, found.2, tt)) c.deliver.ensures
