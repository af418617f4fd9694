-- `line_comments` of snap_text (src/comments.rt): what holds at the head of each of its loops.
use Rattle.std.proofs.Common.{◌≡◌, ◌++◌, length, map, option_map, vec_items}
use Rattle.snap_semantics.specs.Comments.{line_comments}
use Rattle.snap_semantics.specs.Token.{lines_of}
use Rattle.snap_text.proofs.comments.line_comments.Given as goal

-- the comments so far, and those of the lines that are left
abbrev pub invariant-loop-rest : goal.invariant-loop-rest
invariant-loop-rest l =
    map (option_map vec_items) l.comments.items ++ line_comments (lines_of l.rest) ≡ line_comments (lines_of l.text)

abbrev pub decreases-loop-rest : goal.decreases-loop-rest
decreases-loop-rest l = length l.rest
