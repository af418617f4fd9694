-- `priorities_are_distinct` of snap_chance (src/laws.rt): the proof of what its contract says.
use Rattle.snap_chance.proofs.Distinct.{distinct}
use Rattle.snap_chance.proofs.laws.priorities_are_distinct.Goals as goal

pub returns : goal.returns
returns c = distinct
