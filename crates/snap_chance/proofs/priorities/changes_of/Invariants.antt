-- `changes_of` of snap_chance (src/priorities.rt): what holds at the head of each of its loops.
use Rattle.std.proofs.Common.{◌≡◌}
use Rattle.snap_chance.specs.Priorities.{changes_of}
use Rattle.snap_chance.proofs.priorities.changes_of.Given as goal

-- the turns so far
abbrev pub invariant-loop-k : goal.invariant-loop-k
invariant-loop-k g l = (l.changes.items, g.R.Rng.stream l.rng) ≡ changes_of l.plan l.k (g.R.Rng.stream l.fn.rng)
