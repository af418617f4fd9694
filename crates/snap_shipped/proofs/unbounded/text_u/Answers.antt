-- `text_u` of snap_shipped (src/unbounded.rt): the proof of what its contract says.
use Rattle.snap_shipped.proofs.TextOfU.{text_is_u}
use Rattle.snap_shipped.proofs.unbounded.text_u.Goals as goal

pub returns : goal.returns
returns c = text_is_u
