-- `draw` of snap_live (src/steps.rt): the proof of what its contract says.
use Rattle.std.proofs.Common.{rules}
use Rattle.snap_live.proofs.Moves.{draws_as}
use Rattle.snap_live.proofs.steps.draw.Goals as goal

pub fetch_add-requires : goal.fetch_add-requires
fetch_add-requires g c = (search rules, search rules, let i = c.requires.idle in draws_as _ _ _ _ i.0.0 i.0.1 i.1)
