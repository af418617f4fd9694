-- `live_runs_are_cut` of snap_history_laws (src/reruns.rt): the proof of what its contract says.
use Rattle.snap_history_laws.proofs.reruns.Again.{live_runs_are_cut}
use Rattle.snap_history_laws.proofs.reruns.live_runs_are_cut.Goals as goal

pub returns : goal.returns
returns c = live_runs_are_cut
