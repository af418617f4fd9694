-- `runs_tell_each_once` of snap_history_laws (src/judgements.rt): the proof of what its contract says.
use Rattle.snap_history_laws.proofs.judgements.Once.{tell_each_once}
use Rattle.snap_history_laws.proofs.judgements.runs_tell_each_once.Goals as goal

pub returns : goal.returns
returns c = tell_each_once c.events_tell_operations.ensures c.runs_have_histories.ensures
