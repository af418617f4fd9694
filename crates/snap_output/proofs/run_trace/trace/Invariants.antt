-- `trace` of snap_output (src/run_trace.rt): what holds at the head of each of its loops.
use Rattle.std.proofs.Common.{◌≡◌, map}
use Rattle.snap_runs.specs.Run.{run_over}
use Rattle.snap_listing.specs.LineTexts.{seen_line}
use Rattle.snap_output.specs.Touched.{head_texts}
use Rattle.snap_output.proofs.Walks.{Going}
use Rattle.snap_output.proofs.run_trace.trace.Given as goal

-- the first items are done and told, and the others are left
abbrev pub invariant-loop-item : goal.invariant-loop-item
invariant-loop-item g l =
    Going (run_over l.program l.schedule)
    (map seen_line l.texts-inside.lines.items) l.machine l.number l.sheet.out.text l.left
    × (l.sheet.heads ≡ head_texts 1 l.machine.state.processes) × (goal.iterator-loop-item g).can_next l.left × (goal.iterator-loop-item g).is_finite l.left
