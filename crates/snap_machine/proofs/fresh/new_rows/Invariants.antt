-- `new_rows` of snap_machine (src/fresh.rt): what holds at the head of each of its loops.
use Rattle.std.proofs.Common.{◌≡◌, map, replicate, vec_items}
use Rattle.snap_words.specs.Shape.{places}
use Rattle.snap_machine.proofs.fresh.new_rows.Given as goal

abbrev pub invariant-loop-k : goal.invariant-loop-k
invariant-loop-k l = map vec_items l.rows.items ≡ replicate l._k (replicate (places l.shape) 0)
