-- `no_comments` of snap_listing_core (src/commented.rt): what holds at the head of each of its loops.
use Rattle.std.proofs.Common.{◌≡◌, ◌++◌, drop, map}
use Rattle.snap_semantics.specs.Comments.{no_comment}
use Rattle.snap_listing_core.specs.Fields.{seen_comment}
use Rattle.snap_listing_core.proofs.commented.no_comments.Given as goal

-- the comments so far, and those of the lines that are left
abbrev pub invariant-loop-line : goal.invariant-loop-line
invariant-loop-line l =
    map seen_comment l.comments.items ++ map no_comment (drop l._line-index l.lines) ≡ map no_comment l.lines
