-- `views_are_followed` of snap_reading_laws (src/loans.rt): the proof of what its contract says.
use Rattle.snap_reading_laws.proofs.loans.Followed.{followed}
use Rattle.snap_reading_laws.proofs.loans.views_are_followed.Goals as goal

pub returns : goal.returns
returns c = followed
