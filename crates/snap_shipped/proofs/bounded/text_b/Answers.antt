-- `text_b` of snap_shipped (src/bounded.rt): the proof of what its contract says.
use Rattle.snap_shipped.proofs.TextOfB.{text_is_b}
use Rattle.snap_shipped.proofs.bounded.text_b.Goals as goal

pub returns : goal.returns
returns c = text_is_b
