-- `conduct_judge` of snap_program (src/judge_run.rt): the proof of what its contract says.
use Rattle.snap_program.specs.WholeRun.{IsJudgeOf}
use Rattle.snap_program.proofs.Runs.{is_kept, not_read, refused, sends, why_judge}
use Rattle.snap_program.proofs.judge_run.conduct_judge.Goals as goal

pub returns-in_err-kept : goal.returns-in_err-kept
returns-in_err-kept g c =
    not_read c.from_residual.result c.in_err-kept.field-0.0 c.from_residual.ensures c.in_err-kept.ensures

pub returns-in_err-found : goal.returns-in_err-found
returns-in_err-found g c =
    let from = c.from_residual-in_err-found in let fault = c.in_err-found.field-0.0 in
    refused from.result fault from.ensures c.in_ok-kept.field-0 c.in_ok-kept.ensures c.as_slice.ensures.value
    (is_kept fault c.in_ok-kept.field-0.items)
    (why_judge fault c.args.request.now c.as_slice.result.now c.in_err-found.ensures.answers)

pub returns : goal.returns
returns g c =
    let found = c.in_ok-found.ensures.answers in
    sends (λ answer. IsJudgeOf answer c.args.request.now) c.in_ok-kept.field-0 c.in_ok-kept.ensures
    c.as_slice.ensures.value found (λ e. (c.in_ok-found.found.word, found)) c.deliver.ensures
