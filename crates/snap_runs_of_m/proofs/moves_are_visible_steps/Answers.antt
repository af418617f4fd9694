-- `moves_are_visible_steps` of snap_runs_of_m (src/lib.rt): the proof of what its contract says.
use Rattle.snap_runs_of_m.proofs.Moves.{moves_are_visible_steps_lem}
use Rattle.snap_runs_of_m.proofs.moves_are_visible_steps.Goals as goal

pub returns : goal.returns
returns c = moves_are_visible_steps_lem
