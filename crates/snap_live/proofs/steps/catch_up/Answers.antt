-- `catch_up` of snap_live (src/steps.rt): the proof of what its contract says.
use Rattle.std.proofs.Common.{rules}
use Rattle.snap_live.proofs.Moves.{catches}
use Rattle.snap_live.proofs.steps.catch_up.Goals as goal

pub store-requires : goal.store-requires
store-requires g c =
    (search rules, search rules, let s = c.requires.served in catches _ _ _ _ c.args.ticket _ _ s.0 s.1 c.requires.len)
