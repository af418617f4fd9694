-- `note_event` of snap_history_text (src/callers.rt): the proof of what its contract says.
use Rattle.snap_history_text.proofs.Noted.{noted}
use Rattle.snap_history_text.proofs.callers.note_event.Goals as goal

pub returns : goal.returns
returns c = noted c.args.callers.now.items c.caller_after.result c.args.event.now c.caller_after.ensures
