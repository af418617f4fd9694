-- `TextLines::next_line` of snap_text (src/lines.rt): what holds at the head of each of its loops.
use Rattle.std.proofs.Common.{length, ◌+◌, ◌≡◌, ◌<◌, ◌^◌}
use Rattle.snap_semantics.specs.Token.{lines_of, numbered}
use Rattle.snap_text.proofs.lines.TextLines.next_line.Given as goal

-- the lines passed over had no tokens
abbrev pub invariant-loop-alloc : goal.invariant-loop-alloc
invariant-loop-alloc l =
    (numbered l.self-inside.number (lines_of l.self-inside.rest.now) ≡ l.fn.self)
    × (l.self-inside.number + length l.self-inside.rest.now < 2 ^ 64)

abbrev pub decreases-loop-alloc : goal.decreases-loop-alloc
decreases-loop-alloc l = length l.self-inside.rest.now
