-- `what_is_escaped_comes_back` of snap_picture (src/escape.rt): the proof of what its contract says.
use Rattle.snap_picture.proofs.Escapes.{comes_back}
use Rattle.snap_picture.proofs.escape.what_is_escaped_comes_back.Goals as goal

pub returns : goal.returns
returns c = comes_back
