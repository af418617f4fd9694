-- `runs_are_told_by_their_histories` of snap_history_laws (src/judgements.rt): the proof of what its contract says.
use Rattle.snap_history_laws.proofs.judgements.Linear.{runs_are_told}
use Rattle.snap_history_laws.proofs.judgements.runs_are_told_by_their_histories.Goals as goal

pub returns : goal.returns
returns c = runs_are_told c.events_tell_operations.ensures
