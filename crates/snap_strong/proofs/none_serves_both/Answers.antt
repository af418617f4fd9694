-- `none_serves_both` of snap_strong (src/lib.rt): the proof of what its contract says.
use Rattle.snap_strong.proofs.Apart.{none_serves_both_lem}
use Rattle.snap_strong.proofs.none_serves_both.Goals as goal

pub returns : goal.returns
returns c = none_serves_both_lem
