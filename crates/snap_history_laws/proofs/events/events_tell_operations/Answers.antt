-- `events_tell_operations` of snap_history_laws (src/events.rt): the proof of what its contract says.
use Rattle.snap_history_laws.proofs.events.Telling.{tells_operations}
use Rattle.snap_history_laws.proofs.events.events_tell_operations.Goals as goal

pub returns : goal.returns
returns c = tells_operations c.ends_are_of_operations.ensures
