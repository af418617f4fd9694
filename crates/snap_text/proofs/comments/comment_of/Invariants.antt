-- `comment_of` of snap_text (src/comments.rt): what holds at the head of each of its loops.
use Rattle.std.proofs.Common.{◌≡◌, length}
use Rattle.snap_semantics.specs.Comments.{comment_of}
use Rattle.snap_text.proofs.comments.comment_of.Given as goal

-- no `#` stands before the rest
abbrev pub invariant-loop-rest : goal.invariant-loop-rest
invariant-loop-rest l = comment_of l.rest ≡ comment_of l.line

abbrev pub decreases-loop-rest : goal.decreases-loop-rest
decreases-loop-rest l = length l.rest
