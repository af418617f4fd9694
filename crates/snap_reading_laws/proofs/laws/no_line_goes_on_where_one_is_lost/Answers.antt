-- `no_line_goes_on_where_one_is_lost` of snap_reading_laws (src/laws.rt): the proof of what its contract says.
use Rattle.snap_reading_laws.proofs.NotLost.{none_goes_on}
use Rattle.snap_reading_laws.proofs.laws.no_line_goes_on_where_one_is_lost.Goals as goal

pub returns : goal.returns
returns c = none_goes_on
