-- `reads_histories` of snap_history_text (src/laws.rt): the proof of what its contract says.
use Rattle.snap_history_text.proofs.Follows.{what_is_read}
use Rattle.snap_history_text.proofs.laws.reads_histories.Goals as goal

pub returns : goal.returns
returns c = what_is_read
