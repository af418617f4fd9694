-- `edges` of snap_lint (src/edges.rt): what holds at the head of each of its loops.
use Rattle.std.proofs.Common.{◌≡◌, ◌++◌, drop}
use Rattle.std.specs.List.{flat_map}
use Rattle.snap_lint.specs.Flow.{edges, line_edges}
use Rattle.snap_lint.proofs.edges.edges.Given as goal

-- the edges so far, and those of the lines that are left
abbrev pub invariant-loop-line : goal.invariant-loop-line
invariant-loop-line l =
    l.edges.items ++ flat_map (line_edges l.lines l.way) (drop l.line-index l.lines) ≡ edges l.lines l.way
