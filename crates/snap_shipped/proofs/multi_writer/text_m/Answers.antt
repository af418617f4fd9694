-- `text_m` of snap_shipped (src/multi_writer.rt): the proof of what its contract says.
use Rattle.snap_shipped.proofs.TextOfM.{text_is_m}
use Rattle.snap_shipped.proofs.multi_writer.text_m.Goals as goal

pub returns : goal.returns
returns c = text_is_m
