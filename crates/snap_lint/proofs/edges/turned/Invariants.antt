-- `turned` of snap_lint (src/edges.rt): what holds at the head of each of its loops.
use Rattle.std.proofs.Common.{◌≡◌, take}
use Rattle.snap_lint.specs.Flow.{turned}
use Rattle.snap_lint.proofs.edges.turned.Given as goal

-- the edges so far are turned
abbrev pub invariant-loop-edge : goal.invariant-loop-edge
invariant-loop-edge l = l.turned.items ≡ turned (take l.edge-index l.edges)
