-- `numbers` of snap_hunt (src/blocks.rt): what holds at the head of each of its loops.
use Rattle.std.proofs.Common.{◌≡◌}
use Rattle.std.specs.List.{range_with_len}
use Rattle.snap_hunt.proofs.blocks.numbers.Given as goal

-- the numbers that are made so far
abbrev pub invariant-loop-k : goal.invariant-loop-k
invariant-loop-k l = l.numbers.items ≡ range_with_len l.from l.k
