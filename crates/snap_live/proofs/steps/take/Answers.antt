-- `take` of snap_live (src/steps.rt): the proof of what its contract says.
use Rattle.std.proofs.Common.{rules}
use Rattle.snap_live.proofs.Held.{front}
use Rattle.snap_live.proofs.steps.take.Goals as goal

pub exchange-requires : goal.exchange-requires
exchange-requires g c = (search rules, front c.args.seat.now.me c.requires.has)
