-- `judged_run` of snap_page (src/answering.rt): the proof of what its contract says.
use Rattle.std.proofs.Common.{◌≡◌, Some, subst, sym}
use Rattle.snap_judge_task.specs.Judged as judging
use Rattle.snap_faults.specs.declared.fault.ProgramFault.TheVariants as judge
use Rattle.snap_tasks.specs.declared.judge_request.JudgeRequest.{JudgeRequest}
use Rattle.snap_page.proofs.Judging.{of_run}
use Rattle.snap_page.proofs.answering.judged_run.Goals as goal

-- what is found at once is refused
pub returns-in-Err-Refused-clause-at_once : goal.returns-in-Err-Refused-clause-at_once
returns-in-Err-Refused-clause-at_once c r found =
    let input = c.args.input.now in
    let Found : JudgeRequest → Type 0 = λ k. judging.found_at_once k.source input ≡ Some (judge.Refused r) in
    let told =
    c.judge_input.ensures.at_once (judge.Refused r)
    (subst Found (sym c.judge_request.ensures) (of_run c.args.subject input r found)) in
    let is = c.in-Err-Refused.is in
    let field = c.in-Err-Refused.field-0-is in
    cc
