-- `comment_bytes` of snap_image (src/comments.rt): the proof of what its contract says.
use Rattle.std.proofs.Common.{◌≡◌, ◌-◌, ◌+◌, List, ℕ, Err, ap, sym, ◌∙◌, arith}
use Rattle.std.proofs.lemmas.Grind.{common_steps}
use Rattle.snap_image.specs.ImageListing.{comment_bytes_in}
use Rattle.snap_image.specs.DecoderSteps.{onto}
use Rattle.snap_image.proofs.CommentBytes.{bytes_step, bytes_stop, bytes_end}
use Rattle.snap_image.proofs.comments.comment_bytes.Goals as goal

pub returns-in_err-byte : goal.returns-in_err-byte
returns-in_err-byte c =
    let stop : comment_bytes_in c.args.count c.args.cursor.now ≡ Err c.in_err-byte.field-0.0 =
    sym c.loop-place.invariant
    ∙ bytes_stop c.loop-place.bytes.items c.args.count c.loop-place.place c.loop-place.cursor _
    c.loop-place-test.true c.in_err-byte.ensures in
    grind (arith, common_steps, stop)

pub loop-place-preserved : goal.loop-place-preserved
loop-place-preserved c =
    ap (λ (ys : List ℕ). onto ys (comment_bytes_in (c.args.count - (c.loop-place.place + 1)) c.comment_byte.new.cursor))
    c.in_ok-push.ensures.items
    ∙ bytes_step c.loop-place.bytes.items c.args.count c.loop-place.place c.in_ok-byte.byte c.loop-place.cursor
    c.comment_byte.new.cursor c.loop-place-test.true
    c.in_ok-byte.ensures
    ∙ c.loop-place.invariant

pub returns : goal.returns
returns c =
    sym c.loop-place.invariant
    ∙ bytes_end c.loop-place.bytes.items c.args.count c.loop-place.place c.loop-place.cursor (omega arith)
