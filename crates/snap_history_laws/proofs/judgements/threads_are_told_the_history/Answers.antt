-- `threads_are_told_the_history` of snap_history_laws (src/judgements.rt): the proof of what its contract says.
use Rattle.snap_history_laws.proofs.judgements.threads_are_told_the_history.Goals as goal

pub returns : goal.returns
returns c r fits o =
    let threads = c.operations_are_told.ensures r fits o in
    let told = (c.runs_are_told_by_their_histories.ensures r fits).operations o in
    (λ h. told.0 (threads.1 h), λ h. threads.0 (told.1 h))
