-- `name` of snap_live (src/steps.rt): the proof of what its contract says.
use Rattle.std.proofs.Common.{rules}
use Rattle.snap_live.proofs.Moves.{names_as}
use Rattle.snap_live.proofs.steps.name.Goals as goal

pub fetch_add-requires : goal.fetch_add-requires
fetch_add-requires g c = (
  search rules,
  search rules,
  let f = c.requires.fresh in names_as _ _ _ _ f.0.0 f.0.1 f.1 f.2 c.requires.may.0 f.0.2 c.requires.may.1,
)
