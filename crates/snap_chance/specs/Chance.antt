-- The schedule that a seed and the number of a run give.
use Rattle.std.specs.Prelude.{ℕ, zero, suc, ◌+◌, ◌%◌, ◌^◌, List, [], ◌++◌, Option, Some, None}
use Rattle.rand_core.specs.Stream.{Stream, next_u64}
use Rattle.rand_core.specs.Steps.{stream_of}
use Rattle.rand_xoshiro.specs.SplitMix64.{splitmix_steps}
use Rattle.snap_semantics.specs.declared.process.Item.{Item}
use Rattle.snap_semantics.specs.Schedule.{Schedule}
use Rattle.snap_chance.specs.Plan.{Plan}
use Rattle.snap_chance.specs.Draws.{draws}
use Rattle.snap_chance.specs.Paces.{turn_items}
use Rattle.snap_chance.specs.Priorities.{prioritized}

-- where the generator of run k starts
abbrev pub start_of : (seed k : ℕ) → ℕ
start_of seed k = ((next_u64 (stream_of splitmix_steps seed)).0 + k) % 2 ^ 64

-- the items of so many turns of run k, the first of which is turn t
abbrev pub turns_from : Plan → (k t : ℕ) → ℕ → Stream → List Item
turns_from p k t zero s = []
turns_from p k t (suc left) s = turn_items p k t (draws s).0 ++ turns_from p k (t + 1) left (draws s).1

-- the items of run k, whose turns are of processes that are drawn, or that priorities decide
abbrev pub items_by : Option ℕ → Plan → (k : ℕ) → Stream → List Item
items_by None p k s = turns_from p k 1 p.turns s
items_by (Some depth) p k s = prioritized p k depth s

-- the schedule of run k by a plan
unfoldable pub schedule_of : (seed k : ℕ) → Plan → Schedule
schedule_of seed k p =
    record { shape = p.shape; items = items_by p.depth p k (stream_of splitmix_steps (start_of seed k)) }
