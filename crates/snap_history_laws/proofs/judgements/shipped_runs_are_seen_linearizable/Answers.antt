-- `shipped_runs_are_seen_linearizable` of snap_history_laws (src/judgements.rt): the proof of what its contract says.
use Rattle.snap_history_laws.proofs.judgements.Shipped.{seen}
use Rattle.snap_history_laws.proofs.judgements.shipped_runs_are_seen_linearizable.Goals as goal

pub returns : goal.returns
returns c g s items shape fit suffice valid =
    seen c.runs_have_histories.ensures c.runs_are_told_by_their_histories.ensures
    c.linearizable_from_the_beginning.ensures _ (c.shipped_are_listings.ensures g) valid
    (c.shipped_runs_keep_promises.ensures g s items shape fit suffice).snapshot.linearizable
