-- `next_marks` of snap_lint (src/marks.rt): what holds at the head of each of its loops.
use Rattle.std.proofs.Common.{◌≡◌, ◌++◌, drop}
use Rattle.snap_lint.specs.Marks.{next_marks}
use Rattle.snap_lint.proofs.marks.next_marks.Given as goal

-- the marks so far, and those of the lines left
abbrev pub invariant-loop-line : goal.invariant-loop-line
invariant-loop-line l =
    l.next.items ++ next_marks (drop l.line-index l.lines) l.edges l.starts l.marks
    ≡ next_marks l.lines l.edges l.starts l.marks
