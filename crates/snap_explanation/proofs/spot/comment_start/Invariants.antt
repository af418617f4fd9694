-- `comment_start` of snap_explanation (src/spot.rt): what holds at the head of each of its loops.
use Rattle.std.proofs.Common.{◌≡◌, ◌≤◌, ◌-◌, ◌+◌, drop, length}
use Rattle.snap_explanation.specs.Spot.{comment_start}
use Rattle.snap_explanation.proofs.spot.comment_start.Given as goal

abbrev pub invariant-loop-len : goal.invariant-loop-len
invariant-loop-len l = (l.len + comment_start (drop l.len l.line) ≡ comment_start l.line) × (l.len ≤ length l.line)

abbrev pub decreases-loop-len : goal.decreases-loop-len
decreases-loop-len l = length l.line - l.len
