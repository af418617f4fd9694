-- `live_runs_are_linearizable` of snap_history_laws (src/threads.rt): the proof of what its contract says.
use Rattle.snap_history_laws.proofs.threads.Shipped.{live_runs}
use Rattle.snap_history_laws.proofs.threads.live_runs_are_linearizable.Goals as goal

pub returns : goal.returns
returns g c = live_runs _ c.shipped_runs_keep_promises.ensures
