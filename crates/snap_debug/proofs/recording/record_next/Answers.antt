-- `record_next` of snap_debug (src/recording.rt): the proof of what its contract says.
use Rattle.snap_debug.proofs.Recordings.{next_one}
use Rattle.snap_debug.proofs.recording.record_next.Goals as goal

pub apply-requires-clause-process : goal.apply-requires-clause-process
apply-requires-clause-process g c κs within =
    next_one c.requires.0 c.args.history.now c.next_item-item.result c.next_item-item.new.items c.args.items.now
    c.requires.1 c.next_item-item.ensures
