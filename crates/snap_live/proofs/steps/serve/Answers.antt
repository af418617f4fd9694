-- `serve` of snap_live (src/steps.rt): the proof of what its contract says.
use Rattle.std.proofs.Common.{rules}
use Rattle.snap_live.proofs.Moves.{serves_all}
use Rattle.snap_live.proofs.steps.serve.Goals as goal

pub fetch_add-requires : goal.fetch_add-requires
fetch_add-requires g c =
    (search rules, search rules, let s = c.requires.served in serves_all _ _ _ _ c.args.ticket s.0 s.1 s.2)
