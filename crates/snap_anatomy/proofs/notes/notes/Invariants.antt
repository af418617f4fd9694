-- `notes` of snap_anatomy (src/notes.rt): what holds at the head of each of its loops.
use Rattle.std.proofs.Common.{◌≡◌, ◌≤◌, ◌-◌, length}
use Rattle.snap_runs.specs.Run.{run_over}
use Rattle.snap_anatomy.specs.Notes.{notes_to}
use Rattle.snap_anatomy.proofs.notes.notes.Given as goal

-- the walk is in this run, and the notes are those of the items that it has done
abbrev pub invariant-loop-notes : goal.invariant-loop-notes
invariant-loop-notes g l =
    (l.walk.run ≡ run_over l.program l.schedule) × (l.walk.at ≤ length l.walk.run.items)
    × (l.notes.items ≡ notes_to l.walk.run l.steps l.walk.at)

abbrev pub decreases-loop-notes : goal.decreases-loop-notes
decreases-loop-notes g l = length l.walk.run.items - l.walk.at
