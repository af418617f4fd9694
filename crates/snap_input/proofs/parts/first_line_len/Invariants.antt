-- `first_line_len` of snap_input (src/parts.rt): what holds at the head of each of its loops.
use Rattle.std.proofs.Common.{length, ◌-◌, ◌≡◌, ◌≤◌, take, drop, ◌++◌}
use Rattle.std.specs.Io.BufRead.{take_through, drop_through}
use Rattle.snap_input.proofs.parts.first_line_len.Given as goal

-- no line feed stands before the place reached
abbrev pub invariant-loop-len : goal.invariant-loop-len
invariant-loop-len l =
    (l.len ≤ length l.bytes) × (take_through 10 l.bytes ≡ take l.len l.bytes ++ take_through 10 (drop l.len l.bytes))
    × (drop_through 10 l.bytes ≡ drop_through 10 (drop l.len l.bytes))

abbrev pub decreases-loop-len : goal.decreases-loop-len
decreases-loop-len l = length l.bytes - l.len
