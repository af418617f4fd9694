-- `prints_again` of snap_history_text (src/laws.rt): the proof of what its contract says.
use Rattle.snap_history_text.proofs.Round.{printed_again}
use Rattle.snap_history_text.proofs.laws.prints_again.Goals as goal

pub returns : goal.returns
returns c = printed_again
