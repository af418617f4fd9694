-- `turns_of` of snap_chance (src/schedules.rt): what holds at the head of each of its loops.
use Rattle.std.proofs.Common.{◌≡◌, ◌+◌, ◌-◌, ◌*◌, ◌≤◌, ◌++◌, length}
use Rattle.std.specs.List.{AllByRecursion}
use Rattle.snap_words.specs.Shape.{IsOneOf}
use Rattle.snap_semantics.specs.ScheduleText.{FitsItem}
use Rattle.snap_semantics.specs.Table.{who}
use Rattle.snap_chance.specs.Chance.{turns_from}
use Rattle.snap_chance.proofs.schedules.turns_of.Given as goal

-- the turns so far, and those that are left
abbrev pub invariant-loop-turn : goal.invariant-loop-turn
invariant-loop-turn g l = record {
  so_far : l.items ++ turns_from l.plan l.run (l.turn + 1) (l.plan.turns - l.turn) (g.R.Rng.stream l.rng)
      ≡ turns_from l.plan l.run 1 l.plan.turns (g.R.Rng.stream l.fn.rng);
  few : length l.items ≤ l.turn * 129;
  there : AllByRecursion (λ x. IsOneOf l.plan.shape.n (who x)) l.items;
  fits : AllByRecursion FitsItem l.items;
}
