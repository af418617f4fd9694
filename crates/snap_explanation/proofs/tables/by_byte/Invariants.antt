-- `by_byte` of snap_explanation (src/tables.rt): what holds at the head of each of its loops.
use Rattle.std.proofs.Common.{◌≡◌, drop, map}
use Rattle.snap_explanation.specs.Said.{view_range, by_byte}
use Rattle.snap_explanation.proofs.tables.by_byte.Given as goal

abbrev pub invariant-loop-range : goal.invariant-loop-range
invariant-loop-range l =
    by_byte (map view_range (drop l.range-index l.table)) l.byte ≡ by_byte (map view_range l.table) l.byte
