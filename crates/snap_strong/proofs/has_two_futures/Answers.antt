-- `has_two_futures` of snap_strong (src/lib.rt): the proof of what its contract says.
use Rattle.snap_strong.proofs.Futures.{update_took_place, alone_answers, overtaken_answers}
use Rattle.snap_strong.proofs.has_two_futures.Goals as goal

pub returns : goal.returns
returns c = record { ended = update_took_place; alone = alone_answers; overtaken = overtaken_answers }
