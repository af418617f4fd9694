-- `what_is_escaped_begins_no_tag` of snap_picture (src/escape.rt): the proof of what its contract says.
use Rattle.snap_picture.proofs.Escapes.{begins_no_tag}
use Rattle.snap_picture.proofs.escape.what_is_escaped_begins_no_tag.Goals as goal

pub returns : goal.returns
returns c = begins_no_tag
