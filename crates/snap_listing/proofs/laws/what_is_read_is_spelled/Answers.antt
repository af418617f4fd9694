-- `what_is_read_is_spelled` of snap_listing (src/laws.rt): the proof of what its contract says.
use Rattle.snap_listing.proofs.SpelledLines.{read_is_spelled}
use Rattle.snap_listing.proofs.laws.what_is_read_is_spelled.Goals as goal

pub returns : goal.returns
returns c = read_is_spelled
