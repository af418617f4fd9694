-- `shipped_runs_keep_promises` of snap_shipped (src/lib.rt): the proof of what its contract says.
use Rattle.snap_shipped.proofs.Kept.{of_each}
use Rattle.snap_shipped.proofs.shipped_runs_keep_promises.Goals as goal

pub returns : goal.returns
returns c =
    of_each c.runs_of_u_keep_promises.ensures c.runs_of_b_keep_promises.ensures c.runs_of_m_keep_promises.ensures
