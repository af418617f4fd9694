-- `closed_desks_are_seen_linearizable` of snap_history_laws (src/judgements.rt): the proof of what its contract says.
use Rattle.snap_history_laws.proofs.judgements.Shipped.{kept_run}
use Rattle.snap_history_laws.proofs.judgements.closed_desks_are_seen_linearizable.Goals as goal

pub returns : goal.returns
returns c g shape seats r fit h =
    kept_run c.shipped_runs_are_seen_linearizable.ensures g shape r fit h.of_base h.fits h.short
