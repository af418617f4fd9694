-- `desks_tell_linearizations` of snap_history_laws (src/threads.rt): the proof of what its contract says.
use Rattle.snap_history_laws.proofs.threads.Shipped.{desks_tell}
use Rattle.snap_history_laws.proofs.threads.desks_tell_linearizations.Goals as goal

pub returns : goal.returns
returns c = desks_tell
