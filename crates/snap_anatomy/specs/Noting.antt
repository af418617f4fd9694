-- What is noted of an item that a walk has done (`TellsNote`).
use Rattle.std.specs.Prelude.{◌≡◌, suc, ◌<◌, List, length}
use Rattle.snap_semantics.specs.Table.{who}
use Rattle.snap_runs.specs.Run.{item, state}
use Rattle.snap_walk.specs.Walk.{Way, further}
use Rattle.snap_acts.specs.Loans.{step_at}
use Rattle.snap_acts.specs.declared.act.TraceStep.{TraceStep}
use Rattle.snap_anatomy.specs.Notes.{note_of}
use Rattle.snap_anatomy.specs.declared.note.Note.{Note}

-- The next item of a run was done, and this is its note, where this is the trace of the run.
pub record TellsNote (w : Way) (ss : List TraceStep) (n : Note) (w' : Way) : Type 0 where
  pub left : w.at < length w.run.items
  pub note :
      n ≡ note_of w.run.source w.run.shape (state w.run (suc w.at)) (who (item w.run (suc w.at))) (step_at ss w.at)
  pub way : w' ≡ further w
