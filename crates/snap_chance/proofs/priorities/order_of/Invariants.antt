-- `order_of` of snap_chance (src/priorities.rt): what holds at the head of each of its loops.
use Rattle.std.proofs.Common.{◌≡◌, length}
use Rattle.snap_chance.specs.Priorities.{order_of}
use Rattle.snap_chance.proofs.Moving.{AreThere}
use Rattle.snap_chance.proofs.priorities.order_of.Given as goal

-- the processes so far
abbrev pub invariant-loop-i : goal.invariant-loop-i
invariant-loop-i g l = record {
  so_far : (l.order.items, g.R.Rng.stream l.rng) ≡ order_of l.plan l.i (g.R.Rng.stream l.fn.rng);
  count : length l.order.items ≡ l.i;
  there : AreThere l.plan.shape.n l.order.items;
}
