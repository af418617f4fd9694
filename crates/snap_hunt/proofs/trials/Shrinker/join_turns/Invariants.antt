-- `Shrinker::join_turns` of snap_hunt (src/trials.rt): what holds at the head of each of its loops.
use Rattle.snap_hunt.specs.Shrinking.{Shrinks, drawn}
use Rattle.snap_hunt.proofs.trials.Shrinker.join_turns.Given as goal

-- what is kept still fails
abbrev pub invariant-loop-now : goal.invariant-loop-now
invariant-loop-now l = Shrinks l.self.program.now l.self.wanted.now (drawn l.fn.candidate) (drawn l.kept)

abbrev pub decreases-loop-now : goal.decreases-loop-now
decreases-loop-now l = l.before
