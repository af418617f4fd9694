-- `only_sequence_numbers_grow` of snap_runs_of_u (src/lib.rt): the proof of what its contract says.
use Rattle.snap_runs_of_u.proofs.Bounded.{only_sequence_numbers_grow_lem}
use Rattle.snap_runs_of_u.proofs.only_sequence_numbers_grow.Goals as goal

pub returns : goal.returns
returns c = only_sequence_numbers_grow_lem
