-- `Shrinker::drop_items` of snap_hunt (src/trials.rt): what holds at the head of each of its loops.
use Rattle.std.proofs.Common.{length}
use Rattle.snap_hunt.specs.Shrinking.{Shrinks, drawn}
use Rattle.snap_hunt.proofs.trials.Shrinker.drop_items.Given as goal

-- what is kept still fails
abbrev pub invariant-loop-items : goal.invariant-loop-items
invariant-loop-items l =
    Shrinks l.self.program.now l.self.wanted.now (drawn l.fn.candidate)
    (record { shape = l.shape; items = l.items.items })

abbrev pub decreases-loop-items : goal.decreases-loop-items
decreases-loop-items l = length l.items.items
