-- `lines_with_forms_are_not_lost` of snap_reading_laws (src/laws.rt): the proof of what its contract says.
use Rattle.snap_reading_laws.proofs.NotLost.{not_lost}
use Rattle.snap_reading_laws.proofs.laws.lines_with_forms_are_not_lost.Goals as goal

pub returns : goal.returns
returns c = not_lost
