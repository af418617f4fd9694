-- `first_in_blocks` of snap_hunt (src/hunt.rt): what holds at the head of each of its loops.
use Rattle.std.proofs.Common.{◌≤◌, ◌-◌}
use Rattle.snap_hunt.specs.Hunt.{NothingBefore}
use Rattle.snap_hunt.proofs.hunt.first_in_blocks.Given as goal

-- none so far
abbrev pub invariant-loop-from : goal.invariant-loop-from
invariant-loop-from g l = record {
  inside : l.from ≤ l.runs;
  none : NothingBefore l.hunt.program.now l.hunt.plan.now l.hunt.wanted.now l.hunt.seed 0 l.from;
}

abbrev pub decreases-loop-from : goal.decreases-loop-from
decreases-loop-from g l = l.runs - l.from
