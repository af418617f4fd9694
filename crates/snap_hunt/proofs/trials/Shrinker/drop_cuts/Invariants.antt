-- `Shrinker::drop_cuts` of snap_hunt (src/trials.rt): what holds at the head of each of its loops.
use Rattle.snap_hunt.specs.Shrinking.{Shrinks, drawn}
use Rattle.snap_hunt.proofs.trials.Shrinker.drop_cuts.Given as goal

-- what is kept still fails
abbrev pub invariant-loop-k : goal.invariant-loop-k
invariant-loop-k l = Shrinks l.self.program.now l.self.wanted.now (drawn l.fn.candidate) (drawn l.kept)
