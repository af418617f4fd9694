-- `Shrinker::removable` of snap_hunt (src/trials.rt): what holds at the head of each of its loops.
use Rattle.std.proofs.Common.{ℕ, ◌<◌}
use Rattle.snap_hunt.specs.Shrinking.{HoldsWith, without}
use Rattle.snap_hunt.proofs.trials.Shrinker.removable.Given as goal

-- without any of the first items the run does not fail
abbrev pub invariant-loop-k : goal.invariant-loop-k
invariant-loop-k l =
    (j : ℕ) → j < l.k → HoldsWith l.self.program.now l.self.wanted.now l.shape (without j 1 l.items)
