-- `linearizable_from_the_beginning` of snap_judge (src/lib.rt): the proof of what its contract says.
use Rattle.snap_judge.proofs.ExplainedBeginnings.{linearizable_from_the_beginning}
use Rattle.snap_judge.proofs.linearizable_from_the_beginning.Goals as goal

pub returns : goal.returns
returns c = linearizable_from_the_beginning
