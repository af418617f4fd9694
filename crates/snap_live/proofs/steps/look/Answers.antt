-- `look` of snap_live (src/steps.rt): the proof of what its contract says.
use Rattle.std.proofs.Common.{rules}
use mathlib.Core.Option.{none}
use Rattle.atomic_table.specs.Table.{step}
use Rattle.snap_live.proofs.Held.{told}
use Rattle.snap_live.proofs.Moves.{looks_as}
use Rattle.snap_live.proofs.steps.look.Goals as goal

pub load-requires : goal.load-requires
load-requires g c = (search rules, search rules, let w = c.requires.waits in looks_as _ _ _ _ c.args.ticket w.0 w.1 w.2)

pub returns-clause-told : goal.returns-clause-told
returns-clause-told g c = told (step 1 2 0 0 none) _ _ _ _ c.requires.waits.2 c.load.ensures.2
