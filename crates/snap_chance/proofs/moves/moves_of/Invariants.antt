-- `moves_of` of snap_chance (src/moves.rt): what holds at the head of each of its loops.
use Rattle.std.proofs.Common.{◌≡◌, ◌+◌, ◌-◌, ◌*◌, ◌≤◌, ◌++◌, length}
use Rattle.std.specs.List.{AllByRecursion}
use Rattle.snap_words.specs.Shape.{IsOneOf}
use Rattle.snap_semantics.specs.ScheduleText.{FitsItem}
use Rattle.snap_semantics.specs.Table.{who}
use Rattle.snap_chance.specs.Priorities.{moves_from}
use Rattle.snap_chance.proofs.Moving.{AreThere}
use Rattle.snap_chance.proofs.moves.moves_of.Given as goal

-- the turns so far, and those that are left
abbrev pub invariant-loop-turn : goal.invariant-loop-turn
invariant-loop-turn g l = record {
  so_far : l.items
      ++ moves_from l.plan l.run (l.turn + 1) (l.plan.turns - l.turn) l.changes l.order.items (g.R.Rng.stream l.rng)
      ≡ moves_from l.plan l.run 1 l.plan.turns l.changes l.fn.first.items (g.R.Rng.stream l.fn.rng);
  movers : AreThere l.plan.shape.n l.order.items;
  few : length l.items ≤ l.turn * 129;
  there : AllByRecursion (λ x. IsOneOf l.plan.shape.n (who x)) l.items;
  fits : AllByRecursion FitsItem l.items;
}
