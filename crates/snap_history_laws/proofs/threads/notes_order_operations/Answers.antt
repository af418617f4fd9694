-- `notes_order_operations` of snap_history_laws (src/threads.rt): the proof of what its contract says.
use Rattle.snap_history_laws.proofs.threads.Noting.{notes_order}
use Rattle.snap_history_laws.proofs.threads.notes_order_operations.Goals as goal

pub returns : goal.returns
returns c = notes_order
