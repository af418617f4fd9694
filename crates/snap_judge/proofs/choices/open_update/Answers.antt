-- `open_update` of snap_judge (src/choices.rt).
use Rattle.snap_judge.proofs.Goes.{there}
use Rattle.snap_judge.proofs.choices.open_update.Goals as goal

pub called_update-requires : goal.called_update-requires
called_update-requires c =
    (c.requires.config.placed c.args.place c.in-Open.call
    (there _ _ _ _ c.requires.place c.index.ensures c.in-Open.is)).1
