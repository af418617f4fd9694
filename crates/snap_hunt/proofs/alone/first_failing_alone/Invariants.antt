-- `first_failing_alone` of snap_hunt (src/alone.rt): what holds at the head of each of its loops.
use Rattle.std.proofs.Common.{◌≤◌, ◌-◌}
use Rattle.snap_hunt.specs.Hunt.{NothingBefore}
use Rattle.snap_hunt.proofs.alone.first_failing_alone.Given as goal

-- none so far
abbrev pub invariant-loop-run : goal.invariant-loop-run
invariant-loop-run l = record {
  inside : l.run ≤ l.runs;
  none : NothingBefore l.hunt.program.now l.hunt.plan.now l.hunt.wanted.now l.hunt.seed 0 l.run;
}

abbrev pub decreases-loop-run : goal.decreases-loop-run
decreases-loop-run l = l.runs - l.run
