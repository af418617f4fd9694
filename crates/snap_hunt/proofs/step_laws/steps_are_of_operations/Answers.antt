-- `steps_are_of_operations` of snap_hunt (src/step_laws.rt): the proof of what its contract says.
use Rattle.snap_hunt.proofs.Operations.{steps_are_of_operations}
use Rattle.snap_hunt.proofs.step_laws.steps_are_of_operations.Goals as goal

pub returns : goal.returns
returns c = steps_are_of_operations
