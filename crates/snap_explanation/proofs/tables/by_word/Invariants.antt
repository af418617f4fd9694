-- `by_word` of snap_explanation (src/tables.rt): what holds at the head of each of its loops.
use Rattle.std.proofs.Common.{◌≡◌, drop, map}
use Rattle.snap_explanation.specs.Said.{view_row, by_word}
use Rattle.snap_explanation.proofs.tables.by_word.Given as goal

abbrev pub invariant-loop-row : goal.invariant-loop-row
invariant-loop-row l =
    by_word (map view_row (drop l.row-index l.table)) l.otherwise l.piece
    ≡ by_word (map view_row l.table) l.otherwise l.piece
