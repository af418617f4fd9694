-- `live_runs_are_snapshots` of snap_live_output (src/laws.rt): the proof of what its contract says.
use Rattle.snap_live_output.proofs.Shipped.{live_runs}
use Rattle.snap_live_output.proofs.laws.live_runs_are_snapshots.Goals as goal

pub returns : goal.returns
returns c = live_runs c.shipped_runs_keep_promises.ensures
