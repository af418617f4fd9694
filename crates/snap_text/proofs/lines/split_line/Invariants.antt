-- `split_line` of snap_text (src/lines.rt): what holds at the head of each of its loops.
use Rattle.std.proofs.Common.{length, take, drop, ◌-◌, ◌≡◌, ◌≤◌}
use Rattle.snap_semantics.specs.Token.{lines_of}
use Rattle.snap_text.proofs.Splits.{onto_text}
use Rattle.snap_text.proofs.lines.split_line.Given as goal

-- no line feed stands before the place reached
abbrev pub invariant-loop-len : goal.invariant-loop-len
invariant-loop-len l =
    (l.len ≤ length l.bytes) × (onto_text (take l.len l.bytes) (lines_of (drop l.len l.bytes)) ≡ lines_of l.bytes)

abbrev pub decreases-loop-len : goal.decreases-loop-len
decreases-loop-len l = length l.bytes - l.len
