-- `Plan`: how schedules are made by chance: the shape, how processes take turns, the number of turns, the crashes,
-- and the depth of priorities.
use Rattle.std.specs.Prelude.{ℕ, ◌≤◌, Bool, Option}
use Rattle.snap_words.specs.Shape.{Counts, IsShape}
use Rattle.snap_chance.specs.declared.plan.Pace.{Pace}

-- A plan: whether each process updates the word of its own number, how processes take turns, how many turns there
-- are, how many of a thousand are crashes, the greatest of the values that half of the runs repeat, and to which
-- depth priorities decide who moves, if they do.
pub record Plan : Type 0 where
  pub shape : Counts
  pub owns : Bool
  pub pace : Pace
  pub turns : ℕ
  pub crashes : ℕ
  pub repeated : ℕ
  pub depth : Option ℕ

-- A plan has processes and words, and few enough turns for a schedule.
pub record IsPlan (p : Plan) : Type 0 where
  pub shape : IsShape p.shape.n p.shape.w
  pub few : p.turns ≤ 7500

-- a plan in which each process updates its own word, where that is said
abbrev pub with_owned : Bool → Plan → Plan
with_owned owns p = record p { owns = owns }

-- a plan in which priorities decide who moves, to this depth, where one is said
abbrev pub with_depth : Option ℕ → Plan → Plan
with_depth depth p = record p { depth = depth }
