-- `first_of` of snap_hunt (src/blocks.rt): what holds at the head of each of its loops.
use Rattle.std.proofs.Common.{◌≡◌, ◌<◌, ℕ, None, slice_index_or}
use Rattle.snap_hunt.proofs.blocks.first_of.Given as goal

-- none so far
abbrev pub invariant-loop-k : goal.invariant-loop-k
invariant-loop-k l = (j : ℕ) → j < l.k → slice_index_or l.found j None ≡ None
