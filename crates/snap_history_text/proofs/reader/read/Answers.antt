-- `read` of snap_history_text (src/reader.rt): the proof of what its contract says.
use Rattle.snap_history_text.proofs.Follows.{whole_history}
use Rattle.snap_history_text.proofs.reader.read.Goals as goal

pub returns-clause-history : goal.returns-clause-history
returns-clause-history c =
    whole_history c.in_ok-shape.shape c.first_shape.new.lines c.in_ok-events.events.items c.in_ok-events.ensures
