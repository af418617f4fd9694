-- `live_runs_are_read_again` of snap_history_laws (src/reruns.rt): the proof of what its contract says.
use Rattle.snap_history_laws.proofs.reruns.Again.{live_runs_are_read_again}
use Rattle.snap_history_laws.proofs.reruns.live_runs_are_read_again.Goals as goal

pub returns : goal.returns
returns c = live_runs_are_read_again c.prints_again.ensures c.reads_only_spelled.ensures
