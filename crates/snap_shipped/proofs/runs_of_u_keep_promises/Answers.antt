-- `runs_of_u_keep_promises` of snap_shipped (src/lib.rt): the proof of what its contract says.
use Rattle.snap_shipped.proofs.Kept.{of_u}
use Rattle.snap_shipped.proofs.runs_of_u_keep_promises.Goals as goal

pub returns : goal.returns
returns c =
    of_u c.runs_are_snapshots.ensures c.operations_have_places.ensures c.wait_free.ensures
    c.passed_tests_are_clean.ensures
    c.moves_are_writes.ensures c.borrowed_views_are_lent.ensures c.own_updates_are_seen.ensures
