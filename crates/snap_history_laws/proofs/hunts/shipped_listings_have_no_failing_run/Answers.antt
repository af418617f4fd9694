-- `shipped_listings_have_no_failing_run` of snap_history_laws (src/hunts.rt): the proof of what its contract says.
use Rattle.snap_history_laws.proofs.hunts.Nothing.{finds_nothing, hunts_find_none}
use Rattle.snap_history_laws.proofs.hunts.shipped_listings_have_no_failing_run.Goals as goal

pub returns-clause-nothing : goal.returns-clause-nothing
returns-clause-nothing c = λ g.
    finds_nothing c.steps_are_of_operations.ensures g (c.shipped_runs_keep_promises.ensures g)
    (c.shipped_runs_are_seen_linearizable.ensures g)

pub returns-clause-hunts : goal.returns-clause-hunts
returns-clause-hunts c = λ g. hunts_find_none g (returns-clause-nothing c g)
