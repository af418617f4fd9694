-- `what_is_put_is_there` of snap_regs (src/laws.rt): the proof of what its contract says.
use Rattle.snap_regs.proofs.Contents.{put_is_there, others_stay}
use Rattle.snap_regs.proofs.laws.what_is_put_is_there.Goals as goal

pub returns-clause-there : goal.returns-clause-there
returns-clause-there c = put_is_there

pub returns-clause-others : goal.returns-clause-others
returns-clause-others c = others_stay
