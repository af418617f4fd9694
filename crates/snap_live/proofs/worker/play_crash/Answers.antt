-- `play_crash` of snap_live (src/worker.rt): the proof of what its contract says.
use Rattle.snap_live.proofs.Plays.{crash_on}
use Rattle.snap_live.proofs.worker.play_crash.Goals as goal

pub returns-clause-played : goal.returns-clause-played
returns-clause-played g c =
    crash_on _ _ _ _ _ c.in_ok-play_turn.ensures.made c.requires.room.0 c.requires.plays.1 c.requires.plays.0
