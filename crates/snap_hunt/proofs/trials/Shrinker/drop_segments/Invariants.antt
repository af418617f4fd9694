-- `Shrinker::drop_segments` of snap_hunt (src/trials.rt): what holds at the head of each of its loops.
use Rattle.snap_hunt.specs.Shrinking.{Shrinks, drawn}
use Rattle.snap_hunt.proofs.trials.Shrinker.drop_segments.Given as goal

-- what is kept still fails
abbrev pub invariant-loop-size : goal.invariant-loop-size
invariant-loop-size l = Shrinks l.self.program.now l.self.wanted.now (drawn l.fn.candidate) (drawn l.kept)

abbrev pub decreases-loop-size : goal.decreases-loop-size
decreases-loop-size l = l.size
