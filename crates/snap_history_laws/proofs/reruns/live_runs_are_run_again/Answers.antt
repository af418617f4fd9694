-- `live_runs_are_run_again` of snap_history_laws (src/reruns.rt): the proof of what its contract says.
use Rattle.snap_history_laws.proofs.reruns.Rerun.{run_again}
use Rattle.snap_history_laws.proofs.reruns.live_runs_are_run_again.Goals as goal

pub returns : goal.returns
returns c = run_again c.live_runs_are_cut.ensures c.live_runs_are_read_again.ensures
