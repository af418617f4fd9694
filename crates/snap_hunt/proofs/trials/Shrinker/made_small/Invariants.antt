-- `Shrinker::made_small` of snap_hunt (src/trials.rt): what holds at the head of each of its loops.
use Rattle.snap_hunt.specs.Shrinking.{IsShrunk, drawn}
use Rattle.snap_hunt.proofs.trials.Shrinker.made_small.Given as goal

-- what is kept still fails
abbrev pub invariant-loop-before : goal.invariant-loop-before
invariant-loop-before l = IsShrunk l.self.program.now l.self.wanted.now (drawn l.fn.candidate) (drawn l.kept)

abbrev pub decreases-loop-before : goal.decreases-loop-before
decreases-loop-before l = l.before
