-- `reached` of snap_lint (src/marks.rt): what holds at the head of each of its loops.
use Rattle.std.proofs.Common.{◌≡◌}
use Rattle.snap_lint.specs.Marks.{marks_after}
use Rattle.snap_lint.proofs.marks.reached.Given as goal

-- the marks of the rounds so far
abbrev pub invariant-loop-round : goal.invariant-loop-round
invariant-loop-round l = l.marks.items ≡ marks_after l.lines l.edges l.starts l.round
