-- `prints_again` of snap_sched (src/laws.rt): the proof of what its contract says.
use Rattle.snap_sched.proofs.Round.{printed_again}
use Rattle.snap_sched.proofs.laws.prints_again.Goals as goal

pub returns : goal.returns
returns c = printed_again
