-- `live_runs_are_seen_linearizable` of snap_history_laws (src/judgements.rt): the proof of what its contract says.
use Rattle.snap_history_laws.proofs.judgements.Shipped.{kept_run}
use Rattle.snap_history_laws.proofs.judgements.live_runs_are_seen_linearizable.Goals as goal

pub returns : goal.returns
returns g c kind shape scripts limit r turns fit h valid short =
    kept_run c.shipped_runs_are_seen_linearizable.ensures kind shape r fit h.of_base valid short
