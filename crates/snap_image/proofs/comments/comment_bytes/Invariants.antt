-- `comment_bytes` of snap_image (src/comments.rt): what holds at the head of each of its loops.
use Rattle.std.proofs.Common.{◌≡◌, ◌-◌}
use Rattle.snap_image.specs.ImageListing.{comment_bytes_in}
use Rattle.snap_image.specs.DecoderSteps.{onto}
use Rattle.snap_image.proofs.comments.comment_bytes.Given as goal

-- the bytes that are left follow those that were read
abbrev pub invariant-loop-place : goal.invariant-loop-place
invariant-loop-place l =
    onto l.bytes.items (comment_bytes_in (l.count - l.place) l.cursor) ≡ comment_bytes_in l.count l.fn.cursor
