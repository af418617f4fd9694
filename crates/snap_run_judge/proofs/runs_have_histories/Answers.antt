-- `runs_have_histories` of snap_run_judge (src/lib.rt): the proof of what its contract says.
use Rattle.snap_run_judge.proofs.Histories.{runs_have_histories}
use Rattle.snap_run_judge.proofs.runs_have_histories.Goals as goal

pub returns : goal.returns
returns c = runs_have_histories
