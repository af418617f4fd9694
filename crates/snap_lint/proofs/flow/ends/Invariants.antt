-- `ends` of snap_lint (src/flow.rt): what holds at the head of each of its loops.
use Rattle.std.proofs.Common.{◌≡◌, ◌++◌, drop}
use Rattle.snap_lint.specs.Flow.{is_end}
use Rattle.snap_lint.specs.Marks.{numbers_where}
use Rattle.snap_lint.proofs.flow.ends.Given as goal

-- the ends so far, and those among the lines left
abbrev pub invariant-loop-line : goal.invariant-loop-line
invariant-loop-line l =
    l.ends.items ++ numbers_where (is_end l.lines l.way) (drop l.line-index l.lines)
    ≡ numbers_where (is_end l.lines l.way) l.lines
