-- `conduct_model` of snap_program (src/model_run.rt): the proof of what its contract says.
use Rattle.snap_program.specs.ModelOutput.{MayModel}
use Rattle.snap_program.proofs.Runs.{is_kept, not_read, refused, sends, why_model}
use Rattle.snap_program.proofs.model_run.conduct_model.Goals as goal

pub returns-in_err-kept : goal.returns-in_err-kept
returns-in_err-kept g c =
    not_read c.from_residual.result c.in_err-kept.field-0.0 c.from_residual.ensures c.in_err-kept.ensures

pub returns-in_err-text : goal.returns-in_err-text
returns-in_err-text g c =
    let from = c.from_residual-in_err-text in let fault = c.in_err-text.field-0.0 in
    refused from.result fault from.ensures c.in_ok-kept.field-0 c.in_ok-kept.ensures c.as_slice.ensures.value
    (is_kept fault c.in_ok-kept.field-0.items)
    (why_model fault c.args.subject c.as_slice.result.now c.in_err-text.ensures)

pub returns : goal.returns
returns g c =
    sends (λ answer input text. MayModel c.args.subject input) c.in_ok-kept.field-0 c.in_ok-kept.ensures
    c.as_slice.ensures.value c.in_ok-text.ensures (λ e. c.in_ok-text.ensures) c.deliver.ensures
