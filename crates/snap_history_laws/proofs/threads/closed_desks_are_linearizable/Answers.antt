-- `closed_desks_are_linearizable` of snap_history_laws (src/threads.rt): the proof of what its contract says.
use Rattle.snap_history_laws.proofs.threads.Shipped.{closed_desks}
use Rattle.snap_history_laws.proofs.threads.closed_desks_are_linearizable.Goals as goal

pub returns : goal.returns
returns c = closed_desks c.shipped_runs_keep_promises.ensures
