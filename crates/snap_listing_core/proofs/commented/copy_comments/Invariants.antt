-- `copy_comments` of snap_listing_core (src/commented.rt): what holds at the head of each of its loops.
use Rattle.std.proofs.Common.{◌≡◌, ◌++◌, drop, map}
use Rattle.snap_listing_core.specs.Fields.{seen_comment}
use Rattle.snap_listing_core.proofs.commented.copy_comments.Given as goal

-- the copies so far, and the comments that are left
abbrev pub invariant-loop-comment : goal.invariant-loop-comment
invariant-loop-comment l =
    map seen_comment l.copies.items ++ map seen_comment (drop l.comment-index l.comments) ≡ map seen_comment l.comments
