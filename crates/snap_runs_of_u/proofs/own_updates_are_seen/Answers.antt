-- `own_updates_are_seen` of snap_runs_of_u (src/lib.rt): the proof of what its contract says.
use Rattle.snap_runs_of_u.proofs.Every.{own_updates_are_seen_lem}
use Rattle.snap_runs_of_u.proofs.own_updates_are_seen.Goals as goal

pub returns : goal.returns
returns c = own_updates_are_seen_lem
