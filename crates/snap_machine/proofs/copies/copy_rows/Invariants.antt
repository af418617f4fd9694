-- `copy_rows` of snap_machine (src/copies.rt): what holds at the head of each of its loops.
use Rattle.std.proofs.Common.{◌≡◌, map, take, vec_items}
use Rattle.snap_machine.proofs.copies.copy_rows.Given as goal

abbrev pub invariant-loop-row : goal.invariant-loop-row
invariant-loop-row l = map vec_items l.copies.items ≡ map vec_items (take l.row-index l.rows)
