-- `notes` of snap_anatomy (src/notes.rt): the proof of what its contract says.
use Rattle.std.proofs.Common.{sym, ◌∙◌, arith}
use Rattle.snap_anatomy.proofs.notes.notes.Goals as goal

pub loop-notes-preserved : goal.loop-notes-preserved
loop-notes-preserved g c =
    let is = rw c.in-Some.is at c.in_ok-note.ensures in
    rw is.way (
      c.loop-notes.invariant.0,
      omega (arith, is.left),
      rw (c.loop-notes.invariant.2, is.note) at c.in_ok-push.ensures.items,
    )
