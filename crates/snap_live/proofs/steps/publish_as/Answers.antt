-- `publish_as` of snap_live (src/steps.rt): the proof of what its contract says.
use Rattle.std.proofs.Common.{rules}
use Rattle.snap_live.proofs.Moves.{publishes_as}
use Rattle.snap_live.proofs.steps.publish_as.Goals as goal

pub store-requires : goal.store-requires
store-requires g c =
    let e = c.requires.entry in let s = c.requires.served in (
      search rules,
      search rules,
      publishes_as _ _ _ _ c.args.ticket _ c.args.item _ c.args.outcome.now _ e.0 e.1 s.0 s.1 c.requires.own
          c.requires.len c.requires.run,
    )
