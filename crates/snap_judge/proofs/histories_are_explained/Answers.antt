-- `histories_are_explained` of snap_judge (src/lib.rt): the proof of what its contract says.
use Rattle.snap_judge.proofs.ExplainedHistories.{histories_are_explained}
use Rattle.snap_judge.proofs.histories_are_explained.Goals as goal

pub returns : goal.returns
returns c = histories_are_explained
