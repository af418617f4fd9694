-- `count_steps` of snap_prompt (src/steps.rt): what holds at the head of each of its loops.
use Rattle.std.proofs.Common.{◌≡◌, ◌-◌}
use Rattle.snap_prompt.specs.Reach.{steps_from}
use Rattle.snap_prompt.proofs.steps.count_steps.Given as goal

-- the steps that are left lead to the goal as all of them do
abbrev pub invariant-loop-taken : goal.invariant-loop-taken
invariant-loop-taken g l =
    let m = l.fn.machine in
    record {
      shape : l.machine.shape ≡ m.shape;
      all : steps_from l.machine.source l.machine.shape l.process l.goal l.taken (l.most - l.taken) l.machine.state
          ≡ steps_from m.source m.shape l.process l.goal 0 l.most m.state;
    }
