-- `shrunk` of snap_hunt (src/shrink.rt): what holds at the head of each of its loops.
use Rattle.std.proofs.Common.{◌+◌}
use Rattle.snap_hunt.specs.Shrinking.{IsShrunk, drawn}
use Rattle.snap_hunt.proofs.shrink.shrunk.Given as goal

-- what is kept still fails
abbrev pub invariant-loop-kept : goal.invariant-loop-kept
invariant-loop-kept l = IsShrunk l.program l.wanted l.schedule (drawn l.kept)

abbrev pub decreases-loop-kept : goal.decreases-loop-kept
decreases-loop-kept l = l.kept.shape.n + l.kept.shape.w
