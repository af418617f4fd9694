-- `Walk::next` of snap_walk (src/walk.rt): the proof of what its contract says.
use Rattle.snap_walk.proofs.Over.{passed_next, told_activity}
use Rattle.snap_walk.proofs.walk.Walk.next.Goals as goal

pub returns-clause-passed : goal.returns-clause-passed
returns-clause-passed g c = passed_next c.args.self.now c.advance.new.self c.advance.result c.advance.ensures.told

pub returns-clause-activity : goal.returns-clause-activity
returns-clause-activity g c = told_activity c.args.self.now c.advance.new.self c.advance.result c.advance.ensures.told
