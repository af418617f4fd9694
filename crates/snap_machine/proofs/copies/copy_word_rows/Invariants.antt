-- `copy_word_rows` of snap_machine (src/copies.rt): what holds at the head of each of its loops.
use Rattle.std.proofs.Common.{◌≡◌, map, take}
use Rattle.snap_machine.proofs.copies.copy_word_rows.Given as goal

abbrev pub invariant-loop-row : goal.invariant-loop-row
invariant-loop-row g l =
    map (λ xs. map g.K.Kind.as_word xs.items) l.copies.items
    ≡ map (λ xs. map g.K.Kind.as_word xs.items) (take l.row-index l.rows)
