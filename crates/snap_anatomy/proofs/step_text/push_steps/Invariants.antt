-- `push_steps` of snap_anatomy (src/step_text.rt): what holds at the head of each of its loops.
use Rattle.snap_text.specs.Drafted.{Adds}
use Rattle.snap_anatomy.specs.StepText.{steps_to}
use Rattle.snap_anatomy.proofs.step_text.push_steps.Given as goal

abbrev pub invariant-loop-k : goal.invariant-loop-k
invariant-loop-k l = Adds l.fn.out l.out (steps_to l.kind l.steps l.notes l.k)
