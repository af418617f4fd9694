-- `failings_are_of_runs` of snap_history_laws (src/judgements.rt): the proof of what its contract says.
use Rattle.snap_history_laws.proofs.judgements.Judged.{failings_are_of_runs}
use Rattle.snap_history_laws.proofs.judgements.failings_are_of_runs.Goals as goal

pub returns : goal.returns
returns c =
    failings_are_of_runs c.events_tell_operations.ensures c.runs_have_histories.ensures
    c.runs_are_told_by_their_histories.ensures c.linearizable_from_the_beginning.ensures
