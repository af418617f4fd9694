-- `Walk::advance` of snap_walk (src/walk.rt): what holds at the head of each of its loops.
use Rattle.std.proofs.Common.{◌-◌, length}
use Rattle.snap_walk.specs.Walk.{PassesOver}
use Rattle.snap_walk.proofs.walk.Walk.advance.Given as goal

-- the items so far were passed over
abbrev pub invariant-loop-item : goal.invariant-loop-item
invariant-loop-item g l = PassesOver l.quiet l.tells_skips l.fn.self l.self

abbrev pub decreases-loop-item : goal.decreases-loop-item
decreases-loop-item g l = length l.self.run.items - l.self.at
