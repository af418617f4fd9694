-- `push_changes` of snap_text (src/changed.rt): what holds at the head of each of its loops.
use Rattle.std.proofs.Common.{length, ◌+◌, ◌++◌, ◌≡◌, false}
use Rattle.snap_semantics.specs.Token.{lines_of}
use Rattle.snap_text.specs.Changes.{text_between}
use Rattle.snap_text.proofs.changed.push_changes.Given as goal

-- the text so far, and that of the lines that are left
abbrev pub invariant-loop-old : goal.invariant-loop-old
invariant-loop-old l =
    l.out.failed ≡ false →
    (l.fn.out.failed ≡ false)
    × (l.out.text ++ text_between (lines_of l.old) (lines_of l.new)
    ≡ l.fn.out.text ++ text_between (lines_of l.before) (lines_of l.after))

abbrev pub decreases-loop-old : goal.decreases-loop-old
decreases-loop-old l = length l.old + length l.new
