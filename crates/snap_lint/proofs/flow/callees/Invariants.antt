-- `callees` of snap_lint (src/flow.rt): what holds at the head of each of its loops.
use Rattle.std.proofs.Common.{◌≡◌, ◌++◌, drop}
use Rattle.snap_lint.specs.Flow.{callees}
use Rattle.snap_lint.proofs.flow.callees.Given as goal

-- the lines that were called so far, and those that are called by the lines left
abbrev pub invariant-loop-line : goal.invariant-loop-line
invariant-loop-line l = l.callees.items ++ callees (drop l.line-index l.lines) l.marks ≡ callees l.lines l.marks
