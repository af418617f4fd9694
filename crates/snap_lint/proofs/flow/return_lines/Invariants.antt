-- `return_lines` of snap_lint (src/flow.rt): what holds at the head of each of its loops.
use Rattle.std.proofs.Common.{◌≡◌, ◌++◌, drop}
use Rattle.snap_lint.specs.Flow.{is_return}
use Rattle.snap_lint.specs.Marks.{numbers_where}
use Rattle.snap_lint.proofs.flow.return_lines.Given as goal

-- the lines so far, and those among the lines left
abbrev pub invariant-loop-line : goal.invariant-loop-line
invariant-loop-line l =
    l.returns.items ++ numbers_where is_return (drop l.line-index l.lines) ≡ numbers_where is_return l.lines
