-- `conduct_live_keeping` of snap_program (src/live_run.rt): the proof of what its contract says.
use Rattle.snap_program.specs.WholeRun.{IsLiveOf}
use Rattle.snap_program.proofs.Runs.{is_kept, not_read, refused, sends, why_live}
use Rattle.snap_program.proofs.live_run.conduct_live_keeping.Goals as goal

pub returns-in_err-kept : goal.returns-in_err-kept
returns-in_err-kept g c =
    not_read c.from_residual.result c.in_err-kept.field-0.0 c.from_residual.ensures c.in_err-kept.ensures

pub returns-in_err-found : goal.returns-in_err-found
returns-in_err-found g c =
    let from = c.from_residual-in_err-found in let fault = c.in_err-found.field-0.0 in let task = c.args.task.now in
    refused from.result fault from.ensures c.in_ok-kept.field-0 c.in_ok-kept.ensures c.as_slice.ensures.value
    (is_kept fault c.in_ok-kept.field-0.items)
    (why_live fault (g.G.Gate.may_answer task.gate.now) task.subject task.limit c.as_slice.result.now
    c.in_err-found.ensures.answer)

pub returns : goal.returns
returns g c =
    let task = c.args.task.now in let found = c.in_ok-found.ensures.answer in
    sends (λ answer. IsLiveOf answer (g.G.Gate.may_answer task.gate.now) task.subject task.limit)
    c.in_ok-kept.field-0 c.in_ok-kept.ensures c.as_slice.ensures.value found
    (λ e. (found.0, found.1, found.2.0)) c.deliver.ensures
