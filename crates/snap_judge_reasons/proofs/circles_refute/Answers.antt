-- `circles_refute` of snap_judge_reasons (src/lib.rt): the proof of what its contract says.
use Rattle.snap_judge_reasons.proofs.Refuting.{circles_refute}
use Rattle.snap_judge_reasons.proofs.circles_refute.Goals as goal

pub returns : goal.returns
returns c = circles_refute
