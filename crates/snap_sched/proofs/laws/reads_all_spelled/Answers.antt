-- `reads_all_spelled` of snap_sched (src/laws.rt): the proof of what its contract says.
use Rattle.snap_sched.proofs.Again.{spelled_is_read}
use Rattle.snap_sched.proofs.laws.reads_all_spelled.Goals as goal

pub returns : goal.returns
returns c = spelled_is_read
